use Rattle.std.proofs.Common.{arith}
use Rattle.etcs_radio.proofs.encoding.keep_range.Goals as goal

pub returns : goal.returns
returns c = λ i. omega (arith, c.type_inv.bytes i)
