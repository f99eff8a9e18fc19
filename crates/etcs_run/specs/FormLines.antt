-- A JSON form as a line of text. A line that is the form of a telegram, or of a radio message,
-- becomes its text in hexadecimal digits. Any other line becomes the reason, in words.
use Rattle.std.specs.Prelude.{◌++◌, ℕ, Bool, List, codes, Option, Some, None, Result, Ok, Err, if◌then◌else◌, nat_lt}
use Rattle.std.specs.Str.{is_utf8}
use Rattle.etcs_radio.specs.declared.message.Message.{Message}
use Rattle.etcs_radio.specs.Message.{used_bits as message_bits}
use Rattle.etcs_telegram.specs.Record.{Telegram}
use Rattle.etcs_telegram.specs.Sizes.{user_bits}
use Rattle.etcs_telegram.specs.Telegram.{used_bits}
use Rattle.serde_json.specs.Data.{Data}
use Rattle.serde_json.specs.Read.{read}
use Rattle.etcs_schema.specs.Fault.{Fault}
use Rattle.etcs_document.specs.Refusal.{form_fault_words, line_words}
use Rattle.etcs_schema.specs.Codec.{Codec}
use Rattle.etcs_document.specs.declared.refusal.LineFault.TheVariants.{Json, TooBig}
use Rattle.etcs_run.specs.HexText.{message_text, telegram_text}
use Rattle.etcs_run.specs.TextLineMeaning.{Meaning}

-- the next step, applied to the result of a step; a reason to refuse is passed on
infixl 10 ◌then◌
abbrev pub ◌then◌ : {X Y : Type 0} → Result X (List ℕ) → (X → Result Y (List ℕ)) → Result Y (List ℕ)
(Ok x) then next = next x
(Err words) then next = Err words

-- the value that was read, or the reason that there is none
abbrev pub or_no_json : Option Data → Result Data (List ℕ)
or_no_json (Some d) = Ok d
or_no_json None = Err (line_words Json)

-- the JSON value of the bytes: exactly one, in UTF-8, with numbers in range and at most 127 levels
unfoldable pub parsed_value : List ℕ → Result Data (List ℕ)
parsed_value bytes = if is_utf8 bytes then or_no_json (read bytes) else Err (line_words Json)

-- the record that was read from a form, or the form's first fault in words
abbrev pub or_fault : {X : Type 0} → Result X Fault → Result X (List ℕ)
or_fault (Ok x) = Ok x
or_fault (Err f) = Err (form_fault_words f)

-- the record whose form the line is, or the reason why there is none
abbrev pub parsed_record : {X : Type 0} → Codec X → List ℕ → Result X (List ℕ)
parsed_record codec line = parsed_value line then λ d. or_fault (codec.of d)

-- the text with the end of the line, unless the record is too big to have one
abbrev pub text_unless : Bool → List ℕ → Result (List ℕ) (List ℕ)
text_unless too_big text = if too_big then Err (line_words TooBig) else Ok (text ++ codes "\n")

-- the line of a telegram; it is too big if its bits are more than its size
unfoldable pub telegram_line : Telegram → Result (List ℕ) (List ℕ)
telegram_line t = text_unless (nat_lt (user_bits t.size) (used_bits t)) (telegram_text t)

-- the line of a message; it is too big if its bits are more than 1,023 bytes have
unfoldable pub message_line : Message → Result (List ℕ) (List ℕ)
message_line m = text_unless (nat_lt 8184 (message_bits m)) (message_text m)

-- what a line means as the form of a record: the record's text, or the reason why there is none
unfoldable pub encoded : {X : Type 0} → Codec X → (X → Result (List ℕ) (List ℕ)) → Meaning
encoded codec text line = parsed_record codec line then text
