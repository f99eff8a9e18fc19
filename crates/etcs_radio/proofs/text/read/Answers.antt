use Rattle.std.proofs.Common.{◌∙◌, ap}
use Rattle.etcs_radio.specs.TextMeaning.{of_bytes}
use Rattle.etcs_radio.proofs.DecodeLemmas.{front_grows}
use Rattle.etcs_radio.proofs.DigitLemmas.{IsSeen, seen}
use Rattle.etcs_radio.proofs.TextLemmas.{not_hex_means, seen_means}
use Rattle.etcs_radio.proofs.text.read.Goals as goal
use Rattle.etcs_radio.proofs.text.read.Goals.{After-decode}

-- a text that is not hexadecimal is reported at once
pub returns-then-not-read_front-clause-exact : goal.returns-then-not-read_front-clause-exact
returns-then-not-read_front-clause-exact c =
    not_hex_means c.args.text.now (λ h. let is = c.read_front.ensures.digits.1 h in cc (is, c.if-not-read_front.true))

digits : (c : After-decode) → IsSeen c.args.text.now c.read_front.new.front
digits c =
    seen c.args.text.now c.read_front.new.front (c.read_front.ensures.digits.0 c.if-not-read_front.false) c.read_front.ensures.front

-- a text means what the bytes that were read of it mean
pub returns-in-Ok-clause-exact : goal.returns-in-Ok-clause-exact
returns-in-Ok-clause-exact c = seen_means (digits (goal.at.returns-in-Ok-clause-exact c).After-decode) ∙ ap of_bytes c.in-Ok.ensures.exact

pub returns-in-Err-Fault-clause-exact : goal.returns-in-Err-Fault-clause-exact
returns-in-Err-Fault-clause-exact c =
    seen_means (digits (goal.at.returns-in-Err-Fault-clause-exact c).After-decode) ∙ ap of_bytes (rw c.in-Err-Fault.field-0-is at c.in-Err-Fault.ensures.exact)

-- only packets take memory
pub returns-in-Err-Memory-clause-packets : goal.returns-in-Err-Memory-clause-packets
returns-in-Err-Memory-clause-packets c = λ _.
    let s = digits (goal.at.returns-in-Err-Memory-clause-packets c).After-decode in
    record {
      bytes = s.all;
      decoded = s.decoded;
      grows = front_grows s.all c.read_front.new.front s.is_front (rw c.in-Err-Memory.field-0-is at c.in-Err-Memory.ensures.memory);
    }
