-- What is written for a stream of radio messages in lines of hexadecimal text (SUBSET-026, 8.4.4). A
-- line may contain a part of a message, or several messages. Each complete message becomes one JSON line.
-- The first message or line that is refused ends the run. Messages count from 0, over all lines.
use Rattle.std.specs.Prelude.{◌+◌, ℕ, List, [], ◌∷◌, Result, Ok, Err}
use Rattle.hex.specs.Hex.{decode_of}
use Rattle.hex.specs.declared.error.FromHexError.{FromHexError}
use Rattle.etcs_bits.specs.declared.layout.fault.Fault.{Fault as FirstFault}
use Rattle.etcs_telegram.specs.declared.error.TextError.TheVariants.{NotHex}
use Rattle.etcs_radio.specs.Cutting.{Cut, cut_stream}
use Rattle.etcs_radio.specs.Meaning.{read_message}
use Rattle.etcs_radio.specs.Splitter.{splitter_state}
use Rattle.etcs_radio.specs.declared.message.Message.{Message as RadioMessage}
use Rattle.etcs_radio.specs.declared.splitter.State.{State}
use Rattle.etcs_radio.specs.declared.splitter.State.TheVariants.{Failed}
use Rattle.etcs_json.specs.AnyMessage.{message}
use Rattle.etcs_document.specs.Refusal.{line_words}
use Rattle.etcs_document.specs.declared.refusal.LineFault.TheVariants.{Text}
use Rattle.etcs_document.specs.declared.refusal.Refusal.TheVariants.{Message}
use Rattle.etcs_document.specs.declared.refusal.StreamFault.TheVariants.{BelowThree, CutOff, Fault}
use Rattle.etcs_json.specs.JsonLine.{json_line_text}
use Rattle.etcs_run.specs.TextLineMeaning.{line_refusal}
use Rattle.etcs_run.specs.Output.{Output, prepend, refusal_output}
use Rattle.etcs_run.specs.TextLines.{trimmed}
use Rattle.etcs_run.specs.declared.status.Status.TheVariants.{Done, Refused}

-- ---- one message

-- the JSON line of a message that was read, or its first fault
abbrev pub message_json : Result RadioMessage FirstFault → Result (List ℕ) FirstFault
message_json (Ok m) = Ok (json_line_text message m)
message_json (Err fault) = Err fault

-- the JSON line of the message with this number, and then the rest; or the message's refusal
abbrev pub message_output : ℕ → Result (List ℕ) FirstFault → Output → Output
message_output number (Ok line) rest = prepend line rest
message_output number (Err fault) rest = refusal_output (Message number (Fault fault))

-- ---- the bytes of one line

-- what is written later, for the number of the next message and the bytes that are held
abbrev pub Continuation : Type 0
Continuation = ℕ → List ℕ → Output

-- what is written later, unless no message begins with the bytes that are held
abbrev pub unless_failed : State → ℕ → List ℕ → Continuation → Output
unless_failed Failed number held rest = refusal_output (Message number BelowThree)
unless_failed _ number held rest = rest number held

-- the messages that came out of the splitter, in order, and then what is written later
abbrev pub messages_output : ℕ → List (List ℕ) → List ℕ → Continuation → Output
messages_output number [] held rest = unless_failed (splitter_state held) number held rest
messages_output number (bytes ∷ messages) held rest =
    message_output number (message_json (read_message bytes))
    (messages_output (number + 1) messages held rest)

-- what came out of the splitter, its messages in order, and then what is written later
abbrev pub cut_output : ℕ → Cut → Continuation → Output
cut_output number cut rest = messages_output number cut.messages cut.held rest

-- what is written for bytes of the stream, with these bytes held before, and then later
abbrev pub bytes_output : ℕ → List ℕ → List ℕ → Continuation → Output
bytes_output number held bytes rest = cut_output number (cut_stream held bytes) rest

-- ---- the lines

-- what is written for the bytes of a line, or the refusal of a line that is not hexadecimal text
abbrev pub after_bytes : ℕ → Result (List ℕ) FromHexError → (List ℕ → Output) → Output
after_bytes line (Ok bytes) rest = rest bytes
after_bytes line (Err why) rest = (line_refusal line (line_words (Text NotHex)), Refused)

-- what is written at the end of the input: a message that has begun is cut off
abbrev pub at_end : ℕ → List ℕ → Output
at_end number [] = ([], Done)
at_end number (byte ∷ held) = refusal_output (Message number CutOff)

-- what is written for the lines, the first of which has the number `line`; `number` is the number of messages
-- before them, and `held` is the beginning of the next message
unfoldable pub stream_answers : ℕ → List ℕ → ℕ → List (List ℕ) → Output
stream_answers number held line [] = at_end number held
stream_answers number held line (text ∷ lines) =
    after_bytes line (decode_of (trimmed text)) (λ bytes.
    bytes_output number held bytes (λ later kept. stream_answers later kept (line + 1) lines))
