use Rattle.std.proofs.lemmas.Result.{on_ok_weaker}
use Rattle.etcs_findings.proofs.WritingLemmas.{makes_list, next_added}
use Rattle.etcs_findings.specs.Findings.{finding_json}
use Rattle.etcs_findings.proofs.finding.put_findings.Goals as goal

-- one finding more
pub findings-preserved : goal.findings-preserved
findings-preserved c =
    next_added finding_json c.token.new.self c.findings.out c.put_finding.new.out c.args.findings.now c.findings.finding-index _
    c.findings-test.true c.findings.invariant c.in_ok-put_finding.ensures

-- all of them, between the brackets of a list
pub returns : goal.returns
returns c =
    on_ok_weaker c.token-2.result
    (makes_list finding_json c.args.out.now c.token.new.self c.findings.out c.token-2.new.self c.args.findings.now c.findings.finding-index
    c.in_ok-token.ensures.ok c.findings-test.false c.findings.invariant) c.token-2.ensures.ok
