-- What `encode` writes for a line of its input: the digits of the telegram or the radio message whose form the line is,
-- or why it refuses the line. The words are this project's.
use Rattle.std.specs.Prelude.{◌≡◌, ℕ, ◌<◌, ◌⊎◌, codes, List, ◌∷◌, ◌++◌, take, drop, Result, Ok, Err}
use Rattle.std.specs.List.{flat_map}
use Rattle.serde_json.specs.Data.{Data}
use Rattle.etcs_document.specs.Document.{json_value}
use Rattle.etcs_document.specs.DocumentFault.{no_json}
use Rattle.etcs_document.specs.Refusal.{form_fault_words}
use Rattle.etcs_radio.specs.declared.message.Message.{Message}
use Rattle.etcs_schema.specs.Fault.{Fault}
use Rattle.etcs_telegram.specs.Record.{Telegram}
use Rattle.etcs_edition.specs.Wire.{Field, any_number, bit_count}
use Rattle.etcs_edition.specs.TrackPackets.{track_packet_fields}
use Rattle.etcs_edition.specs.Telegram.{header_fields, telegram_fields, user_bits}
use Rattle.etcs_edition.specs.Message.{message_fields}
use Rattle.etcs_edition.specs.Encoding.{IsWrittenTelegram, IsWrittenMessage}
use Rattle.etcs_edition.specs.Keys.{Reader, telegram, message}

-- the fields that are read of the form of a telegram: its user bits, its header and its packets
abbrev pub telegram_form_fields : Telegram → List Field
telegram_form_fields t =
    any_number 10 (user_bits t.size) ∷ header_fields t.header ++ flat_map track_packet_fields t.packets

-- the fields that are read of the form of a message: all but L_MESSAGE
abbrev pub message_form_fields : Message → List Field
message_form_fields m = take 1 (message_fields 0 m) ++ drop 2 (message_fields 0 m)

-- What is written for a line is the digits of a record, if its fields are read. The line is refused for the first of
-- these reasons: it is no JSON, a fault is read, or the record is too big.
abbrev pub IsEncodedLine : {X : Type 0} → Reader → (X → List Field) → (X → List ℕ → Type 0) → (X → Type 0)
    → List ℕ → Result (List ℕ) (List ℕ) → Type 0
IsEncodedLine {X} read fields IsWritten IsTooBig line (Ok text) =
    (d : Data) × (json_value line ≡ Ok d) × (x : X) × (read d ≡ Ok (fields x))
    × (digits : List ℕ) × IsWritten x digits × (text ≡ digits ++ codes "\n")
IsEncodedLine {X} read fields IsWritten IsTooBig line (Err words) =
    ((json_value line ≡ Err no_json) × (words ≡ codes "not JSON"))
    ⊎ ((d : Data) × (json_value line ≡ Ok d)
    × (((f : Fault) × (read d ≡ Err f) × (words ≡ form_fault_words f))
    ⊎ ((x : X) × (read d ≡ Ok (fields x)) × IsTooBig x × (words ≡ codes "too big"))))

-- `encode`; a telegram is too big if it has more bits than its size
abbrev pub IsTelegramDigits : List ℕ → Result (List ℕ) (List ℕ) → Type 0
IsTelegramDigits =
    IsEncodedLine telegram telegram_form_fields IsWrittenTelegram
    (λ t. user_bits t.size < bit_count (telegram_fields t))

-- `encode --radio`; a message is too big if it has more bits than 1,023 bytes, the most that L_MESSAGE counts
abbrev pub IsMessageDigits : List ℕ → Result (List ℕ) (List ℕ) → Type 0
IsMessageDigits =
    IsEncodedLine message message_form_fields IsWrittenMessage (λ m. 8184 < bit_count (message_fields 0 m))
