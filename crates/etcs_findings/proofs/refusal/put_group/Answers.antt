use Rattle.etcs_findings.proofs.WritingLemmas.{then_adds}
use Rattle.etcs_findings.proofs.refusal.put_group.Goals as goal

-- the reason, and then the group
pub returns : goal.returns
returns c = then_adds _ _ _ c.in_ok-put_text.ensures c.put_number.ensures
