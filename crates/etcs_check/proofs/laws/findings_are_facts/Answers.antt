use Rattle.etcs_check.proofs.ViolationLemmas.{findings_are_facts}
use Rattle.etcs_check.proofs.laws.findings_are_facts.Goals as goal

-- A finding is in the list only if its test holds.
pub returns : goal.returns
returns c = findings_are_facts
