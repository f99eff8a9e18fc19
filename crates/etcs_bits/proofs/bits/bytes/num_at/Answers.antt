use Rattle.std.proofs.Common.{◌+◌, ◌-◌, ◌*◌, ◌≡◌, ◌∙◌, ap, take, drop, arith}
use Rattle.etcs_bits.specs.bits.Number.{num_of_bits, bits_of_bytes}
use Rattle.etcs_bits.proofs.LoadLemmas.{num_in_word}
use Rattle.etcs_bits.proofs.bits.bytes.num_at.Goals as goal

pub returns : goal.returns
returns c =
    let first = c.min-first.result in
    let place : 8 * first + (c.args.from - 8 * first) ≡ c.args.from = omega arith in
    num_in_word c.args.bytes.now c.word_at.result first (c.args.from - 8 * first) c.args.width c.word_at.ensures (omega arith) (omega arith)
    ∙ ap (λ j. num_of_bits (take c.args.width (drop j (bits_of_bytes c.args.bytes.now)))) place
