-- The text of a telegram and of a radio message: its bits, eight to a byte, in hexadecimal digits.
use Rattle.std.specs.Prelude.{ℕ, ◌+◌, ◌-◌, ◌*◌, ◌/◌, ◌++◌, Bool, false, List, [], ◌∷◌, replicate}
use Rattle.hex.specs.Hex.{encode_lower}
use Rattle.etcs_bits.specs.bits.Number.{num_of_bits}
use Rattle.etcs_bits.specs.layout.Rows.{join}
use Rattle.etcs_radio.specs.declared.message.Message.{Message}
use Rattle.etcs_radio.specs.Message.{message_rows, used_bits as message_bits}
use Rattle.etcs_telegram.specs.Record.{Telegram}
use Rattle.etcs_telegram.specs.Telegram.{canonical_bits}
use Rattle.etcs_telegram.specs.Text.{no_pads}

-- the bytes that bits spell, eight bits each
unfoldable pub bytes_of_bits : List Bool → List ℕ
bytes_of_bits (a ∷ b ∷ c ∷ d ∷ e ∷ f ∷ g ∷ h ∷ bits) =
    num_of_bits (a ∷ b ∷ c ∷ d ∷ e ∷ f ∷ g ∷ h ∷ []) ∷ bytes_of_bits bits
bytes_of_bits _ = []

-- bits as lower-case hexadecimal digits
abbrev pub digits_of_bits : List Bool → List ℕ
digits_of_bits bits = encode_lower (bytes_of_bits bits)

-- the text of a telegram: its bits, filled up with ones, and zeros as pad bits
unfoldable pub telegram_text : Telegram → List ℕ
telegram_text t = digits_of_bits (canonical_bits t ++ no_pads t.size)

-- the number of bytes for this number of bits
abbrev pub byte_count : ℕ → ℕ
byte_count bits = (bits + 7) / 8

-- the bits of a message of n bytes: its head and its packets, and then zeros
abbrev pub padded_bits : ℕ → Message → List Bool
padded_bits n m = join (message_rows n m) ++ replicate (8 * n - message_bits m) false

-- the text of a message, in the least number of bytes
unfoldable pub message_text : Message → List ℕ
message_text m = digits_of_bits (padded_bits (byte_count (message_bits m)) m)
