use Rattle.std.proofs.Common.{◌∙◌, arith}
use Rattle.etcs_bits.proofs.LoadLemmas.{word_at_is}
use Rattle.etcs_bits.proofs.bits.bytes.word_at.Goals as goal

pub returns : goal.returns
returns c = c.from_be_bytes.ensures ∙ word_at_is c.args.bytes.now c.args.first (λ i. omega (arith, c.type_inv.bytes i)) c.requires
