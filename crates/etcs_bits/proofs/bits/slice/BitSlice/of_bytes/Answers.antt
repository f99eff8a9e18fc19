use Rattle.std.proofs.Common.{◌≡◌, ◌-◌, ◌∙◌, arith}
use Rattle.etcs_bits.proofs.ViewLemmas.{length-part}
use Rattle.etcs_bits.proofs.bits.slice.BitSlice.of_bytes.Goals as goal

pub returns-clause-len : goal.returns-clause-len
returns-clause-len c = let e : c.args.len - 0 ≡ c.args.len = omega arith in length-part c.args.bytes.now 0 c.args.len c.requires ∙ e
