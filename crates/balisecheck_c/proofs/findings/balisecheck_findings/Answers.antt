use Rattle.balisecheck_c.specs.Findings.{findings_output}
use Rattle.balisecheck_c.proofs.findings.balisecheck_findings.Goals as goal

-- what is answered is the line with its status
pub returns : goal.returns
returns c = c.answer.ensures.means (findings_output c.args.input.now) c.line_of.ensures
