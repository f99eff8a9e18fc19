-- What the program writes for an input, and the status with which it ends. Lines of the input count from 1,
-- everything else from 0. The words are this project's.
use Rattle.std.specs.Prelude.{◌≡◌, ℕ, ◌+◌, ◌⊎◌, codes, decimal, List, [], ◌∷◌, ◌++◌, Result, Ok, Err}
use Rattle.hex.specs.Hex.{decode_of}
use Rattle.hex.specs.declared.error.FromHexError.{FromHexError}
use Rattle.serde_json.specs.Data.{Data}
use Rattle.serde_json.specs.Written.{compact_text}
use Rattle.etcs_bits.specs.declared.layout.fault.Fault.{Fault}
use Rattle.etcs_bits.specs.layout.FaultWords.{fault_words}
use Rattle.etcs_telegram.specs.Record.{Telegram}
use Rattle.etcs_telegram.specs.declared.error.TextError.{TextError}
use Rattle.etcs_radio.specs.Cutting.{cut_stream}
use Rattle.etcs_radio.specs.Splitter.{splitter_state}
use Rattle.etcs_radio.specs.declared.message.Message.{Message}
use Rattle.etcs_radio.specs.declared.splitter.State.{State}
use Rattle.etcs_radio.specs.declared.splitter.State.TheVariants.{Failed}
use Rattle.etcs_document.specs.DocumentFault.{DocumentFault}
use Rattle.etcs_document.specs.Refusal.{text_words}
use Rattle.etcs_run.specs.Checking.{check_status}
use Rattle.etcs_run.specs.Output.{Output, each_text_line, line_by_line, prepend}
use Rattle.etcs_run.specs.TextLineMeaning.{Meaning, line_refusal}
use Rattle.etcs_run.specs.TextLines.{trimmed}
use Rattle.etcs_run.specs.declared.status.Status.TheVariants.{Done, Refused}
use Rattle.etcs_edition.specs.Telegram.{IsTelegramText}
use Rattle.etcs_edition.specs.Message.{IsMessage}
use Rattle.etcs_edition.specs.Forms.{telegram_form, message_form}
use Rattle.etcs_edition.specs.Report.{IsReport}
use Rattle.etcs_edition.specs.Refusals.{IsTelegramReason, IsDocumentReason, document_words}
use Rattle.etcs_edition.specs.Faults.{IsMessageFault}

-- ---- what is written for a text or a record

-- the form of a record as a line of JSON without blanks, its keys in byte order
abbrev pub json_line : Data → List ℕ
json_line form = compact_text form ++ codes "\n"

-- `decode`: the form of the telegram whose text it is, or why it is the text of none
abbrev pub IsTelegramLine : List ℕ → Result (List ℕ) (List ℕ) → Type 0
IsTelegramLine text (Ok line) = (t : Telegram) × IsTelegramText t text × (line ≡ json_line (telegram_form t))
IsTelegramLine text (Err words) = (why : TextError) × IsTelegramReason text why × (words ≡ text_words why)

-- `decode --radio`, the bytes of one message: its form, or the first fault
abbrev pub IsMessageLine : List ℕ → Result (List ℕ) (List ℕ) → Type 0
IsMessageLine bytes (Ok line) = (m : Message) × IsMessage m bytes × (line ≡ json_line (message_form m))
IsMessageLine bytes (Err words) = (f : Fault) × IsMessageFault bytes f × (words ≡ fault_words f)

-- ---- line by line

-- Each line is answered by itself, up to the first that is refused.
abbrev pub IsEachLine : (List ℕ → Result (List ℕ) (List ℕ) → Type 0) → List ℕ → Output → Type 0
IsEachLine Is input output =
    (meaning : Meaning) × ((text : List ℕ) → Is text (meaning text)) × (output ≡ each_text_line meaning input)

-- ---- a stream of messages

abbrev pub message_refusal : ℕ → List ℕ → Output
message_refusal n words =
    (codes "refused: message " ++ (decimal n ++ (codes ": " ++ (words ++ codes "\n"))), Refused)

-- the line of message n, and then the rest; or its refusal, and nothing after it
abbrev pub after_message : ℕ → Result (List ℕ) (List ℕ) → Output → Output
after_message n (Ok line) rest = prepend line rest
after_message n (Err words) rest = message_refusal n words

-- the messages that are complete, the first of which has this number, and then the rest
abbrev pub messages_output : Meaning → ℕ → List (List ℕ) → (ℕ → Output) → Output
messages_output meaning n [] rest = rest n
messages_output meaning n (bytes ∷ messages) rest =
    after_message n (meaning bytes) (messages_output meaning (n + 1) messages rest)

-- the rest, unless no message begins with the bytes that are held
abbrev pub unless_failed : State → ℕ → Output → Output
unless_failed Failed n rest = message_refusal n (codes "length below 3")
unless_failed state n rest = rest

-- a line of hexadecimal digits as its bytes, or the refusal of a line that is none
abbrev pub after_bytes : ℕ → Result (List ℕ) FromHexError → (List ℕ → Output) → Output
after_bytes number (Ok bytes) rest = rest bytes
after_bytes number (Err why) rest = (line_refusal number (codes "not hexadecimal"), Refused)

-- at the end of the input a message that has begun is cut off
abbrev pub at_end : ℕ → List ℕ → Output
at_end n [] = ([], Done)
at_end n (byte ∷ held) = message_refusal n (codes "cut off")

-- The lines, the first of which has this number. A line can have a part of a message, or several of them.
unfoldable pub stream_output : Meaning → ℕ → List ℕ → ℕ → List (List ℕ) → Output
stream_output meaning n held number [] = at_end n held
stream_output meaning n held number (line ∷ lines) =
    after_bytes number (decode_of (trimmed line)) (λ bytes.
    messages_output meaning n (cut_stream held bytes).messages (λ next.
    unless_failed (splitter_state (cut_stream held bytes).held) next
    (stream_output meaning next (cut_stream held bytes).held (number + 1) lines)))

-- Each message is answered by itself, up to the first that is refused.
abbrev pub IsStream : (List ℕ → Result (List ℕ) (List ℕ) → Type 0) → List ℕ → Output → Type 0
IsStream Is input output = (meaning : Meaning) × ((bytes : List ℕ) → Is bytes (meaning bytes))
    × (output ≡ line_by_line (stream_output meaning 0 []) input)

-- ---- check

-- the report and the status of its findings, or the refusal of the first fault
abbrev pub IsChecked : List ℕ → Output → Type 0
IsChecked input output =
    ((report : IsReport input output.0) × (output.1 ≡ check_status report.found))
    ⊎ ((f : DocumentFault) × IsDocumentReason input f
    × (output ≡ (codes "refused: " ++ (document_words f ++ codes "\n"), Refused)))
