use Rattle.etcs_bits.proofs.LoadLemmas.{none_packed}
use Rattle.etcs_bits.proofs.bits.Bits.with_room.Goals as goal

pub invariant_of-result : goal.invariant_of-result
invariant_of-result c = rw c.in_ok-bytes.ensures.items none_packed
