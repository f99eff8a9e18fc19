use Rattle.std.specs.Prelude.{codes}
use Rattle.std.proofs.lemmas.Result.{on_ok_weaker}
use Rattle.etcs_findings.proofs.WritingLemmas.{adds_member, adds_then, makes_object, text_is}
use Rattle.etcs_findings.specs.Findings.{findings_json}
use Rattle.etcs_findings.proofs.finding.put_summary.Goals as goal

-- the word and the counts, and then the list
pub returns : goal.returns
returns c =
    let word = text_is (codes "verdict") c.word_of.ensures c.in_ok-put_text.ensures in
    let counts = adds_then (adds_then word c.in_ok-put_number.ensures) c.in_ok-put_number-2.ensures in
    let list = adds_member c.put_number-2.new.out (codes "findings") (findings_json c.args.findings.now) c.in_ok-token-2.ensures.ok c.in_ok-put_findings.ensures in
    on_ok_weaker c.token-3.result (makes_object c.args.out.now c.in_ok-token.ensures.ok (adds_then counts list)) c.token-3.ensures.ok
