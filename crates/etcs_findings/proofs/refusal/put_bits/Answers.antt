use Rattle.etcs_findings.proofs.WritingLemmas.{then_adds}
use Rattle.etcs_findings.proofs.refusal.put_bits.Goals as goal

-- the place, and then the end
pub returns : goal.returns
returns c = then_adds _ _ _ c.in_ok-put_number.ensures c.put_number-2.ensures
