use Rattle.std.proofs.Common.{◌/◌, arith}
use Rattle.etcs_bits.proofs.ViewLemmas.{bit_of_bytes}
use Rattle.etcs_bits.proofs.bits.bytes.bit_at.Goals as goal

pub returns : goal.returns
returns c = bit_of_bytes c.args.bytes.now c.args.i c.requires (omega (arith, c.type_inv.bytes (c.args.i / 8)))
