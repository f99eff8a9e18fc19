-- The first 24 bits of the bytes have bits 8 to 17.
use Rattle.std.proofs.Common.{◌∙◌, ap, take, drop}
use Rattle.etcs_bits.specs.bits.Number.{num_of_bits}
use Rattle.etcs_radio.proofs.StreamLemmas.{message_length-front}
use Rattle.etcs_radio.proofs.splitter.length_in.Goals as goal

pub returns-clause-value : goal.returns-clause-value
returns-clause-value c = c.num.ensures.value ∙ ap (λ xs. num_of_bits (take 10 (drop 8 xs))) c.of_bytes.ensures.bits ∙ message_length-front c.args.bytes.now
