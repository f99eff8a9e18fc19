use Rattle.std.proofs.Common.{ap}
use Rattle.std.specs.Prelude.{codes}
use Rattle.std.proofs.lemmas.Result.{on_ok_weaker}
use Rattle.etcs_findings.proofs.WritingLemmas.{text_is, then_adds}
use Rattle.etcs_findings.proofs.finding.put_rule.Goals as goal

-- the number, and then the name
pub returns : goal.returns
returns c =
    let number = text_is (codes "rule") (ap (λ p. p.0) c.words_of.ensures) c.in_ok-put_text.ensures in
    then_adds _ _ c.put_text-2.result number
    (on_ok_weaker c.put_text-2.result (text_is (codes "name") (ap (λ p. p.1) c.words_of.ensures)) c.put_text-2.ensures)
