use Rattle.std.proofs.Common.{take, arith, sym, length-take}
use Rattle.etcs_bits.proofs.LoadLemmas.{num_of_none, num_of_four, num_of_more}
use Rattle.etcs_bits.proofs.bits.bytes.few_bytes.Goals as goal

pub loop-byte-init : goal.loop-byte-init
loop-byte-init c = sym num_of_none

pub overflow_mul-total : goal.overflow_mul-total
overflow_mul-total c =
    let h = num_of_four (take c.loop-byte.byte-index c.args.bytes.now) (rw length-take (omega arith)) in
    omega arith

pub overflow_add-total : goal.overflow_add-total
overflow_add-total c =
    let h = num_of_four (take c.loop-byte.byte-index c.args.bytes.now) (rw length-take (omega arith)) in
    omega (arith, c.type_inv.bytes c.loop-byte.byte-index)

pub loop-byte-preserved : goal.loop-byte-preserved
loop-byte-preserved c =
    rw c.loop-byte.invariant (num_of_more c.args.bytes.now c.loop-byte.byte-index (omega arith) (omega (arith, c.type_inv.bytes c.loop-byte.byte-index)))
