-- What the text of one record means: its JSON line, or its first fault. The line is the one that the program
-- writes, and the fault is the one that it reports in words.
use Rattle.std.specs.Prelude.{◌≡◌, ◌⊎◌, ℕ, List, [], Result, Ok, Err}
use Rattle.etcs_digits.specs.Hexadecimal.{IsHexadecimal}
use Rattle.etcs_schema.specs.Codec.{object}
use Rattle.etcs_json.specs.AnyMessage.{message}
use Rattle.etcs_json.specs.Telegrams.{telegram}
use Rattle.etcs_radio.specs.Text.{HasHeadFault}
use Rattle.etcs_radio.specs.TextMeaning.{message_of_text}
use Rattle.etcs_radio.specs.declared.error.RadioTextError.{RadioTextError}
use Rattle.etcs_radio.specs.declared.error.RadioTextError.TheVariants as radio
use Rattle.etcs_radio.specs.declared.message.Message.{Message}
use Rattle.etcs_telegram.specs.Record.{Telegram}
use Rattle.etcs_telegram.specs.TextMeaning.{telegram_of_text}
use Rattle.etcs_telegram.specs.declared.error.TextError.{TextError}
use Rattle.etcs_telegram.specs.declared.error.TextError.TheVariants as texts
use Rattle.etcs_json.specs.JsonLine.{json_line_text}
use Rattle.etcs_run.specs.Output.{Output}
use Rattle.etcs_run.specs.declared.status.Status.TheVariants as statuses
use Rattle.balisecheck_c.specs.Answer.{IsOutOfMemory, IsPut}
use Rattle.balisecheck_c.specs.Fault.{message_fault, no_fault, telegram_fault}
use Rattle.balisecheck_c.specs.declared.fault.Fault.{Fault}
use Rattle.balisecheck_c.specs.declared.records.Unread.{Unread}
use Rattle.balisecheck_c.specs.declared.records.Unread.TheVariants.{Memory, Refused}

-- ---- what a text means

-- the JSON line of a telegram that was read, or the fault of a text that is none
abbrev pub telegram_json : Result Telegram TextError → Result (List ℕ) Fault
telegram_json (Ok t) = Ok (json_line_text (object telegram) t)
telegram_json (Err why) = Err (telegram_fault why)

abbrev pub telegram_meaning : List ℕ → Result (List ℕ) Fault
telegram_meaning text = telegram_json (telegram_of_text text)

-- the JSON line of a message that was read, or the fault of a text that is none
abbrev pub message_json : Result Message RadioTextError → Result (List ℕ) Fault
message_json (Ok m) = Ok (json_line_text message m)
message_json (Err why) = Err (message_fault why)

abbrev pub message_meaning : List ℕ → Result (List ℕ) Fault
message_meaning text = message_json (message_of_text text)

-- the text is refused for this reason before any packet of the message is read
abbrev pub IsEarlyMessage : RadioTextError → List ℕ → Type 0
IsEarlyMessage radio.Memory text = ⊥
IsEarlyMessage radio.NotHex text = IsHexadecimal text → ⊥
IsEarlyMessage (radio.Fault f) text = HasHeadFault text f

-- ---- what is returned for the meaning

-- the line, or no text
abbrev pub record_output : Result (List ℕ) Fault → Output
record_output (Ok line) = (line, statuses.Done)
record_output (Err fault) = ([], statuses.Refused)

abbrev pub first_fault : Result (List ℕ) Fault → Fault
first_fault (Ok line) = no_fault
first_fault (Err fault) = fault

-- The line was put into the buffer, or the first fault was reported, unless memory ran out.
abbrev pub IsRecordAnswer : Result (List ℕ) Fault → List ℕ → List ℕ → ℕ → Fault → ℕ → Type 0
IsRecordAnswer meaning old new count fault result =
    (IsOutOfMemory old new count result × (fault ≡ no_fault))
    ⊎ (IsPut (record_output meaning) old new count result × (fault ≡ first_fault meaning))

-- ---- what the functions return among themselves

-- What a call returned, seen through `view`, is the meaning, unless memory ran out.
abbrev pub Gives : {X Y : Type 0} → (X → Y) → Result X Unread → Result Y Fault → Type 0
Gives view (Ok x) meaning = meaning ≡ Ok (view x)
Gives view (Err Memory) meaning = Unit {0}
Gives view (Err (Refused fault)) meaning = meaning ≡ Err fault

abbrev pub telegram_reason : TextError → Unread
telegram_reason texts.Memory = Memory
telegram_reason why = Refused (telegram_fault why)

abbrev pub message_reason : RadioTextError → Unread
message_reason radio.Memory = Memory
message_reason why = Refused (message_fault why)
