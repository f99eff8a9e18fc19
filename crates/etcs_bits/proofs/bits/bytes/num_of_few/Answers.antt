use Rattle.std.proofs.Common.{◌+◌, ◌/◌, ◌%◌, ◌∙◌, arith, refl, ap, take, drop}
use Rattle.etcs_bits.specs.bits.Number.{num_of_bits, bits_of_bytes}
use Rattle.etcs_bits.proofs.LoadLemmas.{num_by_few}
use Rattle.etcs_bits.proofs.bits.bytes.num_of_few.Goals as goal

pub returns : goal.returns
returns c =
    let q = c.args.from / 8 in
    let n = (c.args.from % 8 + c.args.width + 7) / 8 in
    num_by_few c.args.bytes.now c.few_bytes-block.result c.args.from c.args.width n
    (c.few_bytes-block.ensures ∙ ap (λ k. num_of_bits (bits_of_bytes (take k (drop q c.args.bytes.now)))) (omega arith))
    refl c.requires.inside c.requires.low c.requires.high
