use Rattle.std.proofs.Common.{◌≡◌, ◌∙◌, Ok, ap, arith, length, sym}
use Rattle.hex.specs.Hex.{decode_of}
use Rattle.etcs_run.specs.RadioHeld.{kept_bytes, messages_written}
use Rattle.etcs_run.specs.TextLines.{trimmed}
use Rattle.etcs_run.proofs.RadioLemmas.{bytes_spelled, line_fed, line_refused, not_read, pays_more}
use Rattle.etcs_run.proofs.radio_decoding.RadioDecodingTextLineCommand.answer.Goals as goal

-- a line has no fewer bytes than it spells
pub feed-requires-clause-numbered : goal.feed-requires-clause-numbered
feed-requires-clause-numbered g c =
    let is : decode_of (trimmed c.args.line.now) ≡ Ok c.in-Ok.bytes.items =
    ap decode_of (sym c.trim.ensures) ∙ c.in-Ok.ensures.ok in
    let few = bytes_spelled c.args.line.now c.in-Ok.bytes.items is in
    omega (arith, c.requires.numbered, few, ap length c.as_slice.ensures.value)

-- the bytes of the line were fed
pub returns-in-Ok-clause-answers_line : goal.returns-in-Ok-clause-answers_line
returns-in-Ok-clause-answers_line g c =
    let old = c.args.self.now in
    let new = c.feed.new.self in
    let is : decode_of (trimmed c.args.line.now) ≡ Ok c.as_slice.result.now =
    ap decode_of (sym c.trim.ensures) ∙ c.in-Ok.ensures.ok ∙ ap Ok (sym c.as_slice.ensures.value) in
    line_fed (messages_written old) (kept_bytes old) (messages_written new) (kept_bytes new) c.args.number c.args.line.now
    c.as_slice.result.now c.feed.result is c.feed.ensures.feeds

pub returns-in-Ok-clause-bounded : goal.returns-in-Ok-clause-bounded
returns-in-Ok-clause-bounded g c =
    let is : decode_of (trimmed c.args.line.now) ≡ Ok c.as_slice.result.now =
    ap decode_of (sym c.trim.ensures) ∙ c.in-Ok.ensures.ok ∙ ap Ok (sym c.as_slice.ensures.value) in
    pays_more _ _ _ _ c.feed.result c.feed.ensures.bounded (bytes_spelled c.args.line.now c.as_slice.result.now is)

-- the line is not hexadecimal text
pub returns-in_default-clause-answers_line : goal.returns-in_default-clause-answers_line
returns-in_default-clause-answers_line g c =
    let old = c.args.self.now in
    let is = not_read c.trim.ensures c.in_default.not-OutOfMemory c.in-Err.ensures.err in
    line_refused (messages_written old) (kept_bytes old) (messages_written old) (kept_bytes old) c.args.number c.args.line.now
    c.in-Err.why c.refuse_line.result is c.refuse_line.ensures.answers_line
