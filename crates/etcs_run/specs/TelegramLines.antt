-- A telegram as a line of text. A text that is accepted becomes one JSON object. A text that is
-- refused becomes the reason, in words.
use Rattle.std.specs.Prelude.{ℕ, List, Result, Ok, Err}
use Rattle.etcs_digits.specs.Hexadecimal.{IsHexadecimal}
use Rattle.etcs_telegram.specs.Text.{HasHeaderFault, IsReasonDecoded}
use Rattle.etcs_telegram.specs.TextMeaning.{telegram_of_text}
use Rattle.etcs_telegram.specs.Record.{Telegram}
use Rattle.etcs_telegram.specs.declared.error.TextError.{TextError}
use Rattle.etcs_telegram.specs.declared.error.TextError.TheVariants as texts
use Rattle.etcs_document.specs.Refusal.{line_words}
use Rattle.etcs_schema.specs.Codec.{object}
use Rattle.etcs_json.specs.Telegrams.{telegram}
use Rattle.etcs_document.specs.declared.refusal.LineFault.TheVariants.{Text}
use Rattle.etcs_json.specs.JsonLine.{json_line_text}
use Rattle.etcs_run.specs.TextLineMeaning.{Meaning}

-- the line that is written for a telegram that was read, or the reason why none was
abbrev pub telegram_json : Result Telegram TextError → Result (List ℕ) (List ℕ)
telegram_json (Ok t) = Ok (json_line_text (object telegram) t)
telegram_json (Err why) = Err (line_words (Text why))

-- what a line of hexadecimal text means: a JSON line, or the reason why it is refused
unfoldable pub telegram_decoded : Meaning
telegram_decoded text = telegram_json (telegram_of_text text)

-- the text is refused for this reason before any packet is read
abbrev pub IsEarly : TextError → List ℕ → Type 0
IsEarly texts.Memory text = ⊥
IsEarly texts.NotHex text = IsHexadecimal text → ⊥
IsEarly texts.WrongSize text = IsReasonDecoded texts.WrongSize text
IsEarly texts.PadBits text = IsReasonDecoded texts.PadBits text
IsEarly (texts.Fault fault) text = HasHeaderFault text fault
