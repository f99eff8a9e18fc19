use Rattle.etcs_telegram.proofs.ReasonLemmas.{decoded_means, not_hex_means}
use Rattle.etcs_telegram.proofs.text.telegram_of_digits.Goals as goal

-- a text that is not hexadecimal is reported at once
pub returns-then-not-read_digits-clause-exact : goal.returns-then-not-read_digits-clause-exact
returns-then-not-read_digits-clause-exact g c =
    not_hex_means c.args.text.now (c.read_digits.ensures.others c.if-not-read_digits.true)

-- a text means what its bytes mean
pub returns-clause-exact : goal.returns-clause-exact
returns-clause-exact g c =
    let decoded = c.read_digits.ensures.digits c.if-not-read_digits.false in
    rw (decoded_means c.args.text.now c.read_digits.new.bytes decoded) c.telegram_in.ensures.exact

pub returns-clause-packets : goal.returns-clause-packets
returns-clause-packets g c = λ memory.
    record {
      bytes = c.read_digits.new.bytes;
      decoded = c.read_digits.ensures.digits c.if-not-read_digits.false;
      packets = c.telegram_in.ensures.packets memory;
    }
