use Rattle.std.proofs.lemmas.Result.{on_ok_weaker}
use Rattle.etcs_findings.proofs.WritingLemmas.{adds_then, makes_object}
use Rattle.etcs_findings.proofs.finding.put_finding.Goals as goal

-- the rule and the place, between the brackets of an object
pub returns : goal.returns
returns c =
    let members = adds_then c.in_ok-put_rule.ensures c.in_ok-put_place.ensures in
    on_ok_weaker c.token-2.result (makes_object c.args.out.now c.in_ok-token.ensures.ok members) c.token-2.ensures.ok
