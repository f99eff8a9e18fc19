-- What `encode` writes for a telegram or a radio message (SUBSET-026, 8.4.2 and 8.4.4; SUBSET-036, 4.3): the
-- digits in lower case. By this project's rule a telegram is filled up with ones, and a message with zeros.
use Rattle.std.specs.Prelude.{◌≡◌, ℕ, ◌+◌, ◌-◌, ◌*◌, ◌<◌, ◌≤◌, Bool, true, false, List, ◌++◌, length, replicate}
use Rattle.hex.specs.Hex.{encode_lower, IsBytes}
use Rattle.etcs_radio.specs.declared.message.Message.{Message}
use Rattle.etcs_telegram.specs.Record.{Telegram}
use Rattle.etcs_edition.specs.Wire.{bits_of_bytes, bit_count, Spells}
use Rattle.etcs_edition.specs.Telegram.{telegram_fields, user_bits}
use Rattle.etcs_edition.specs.Message.{message_fields, has_required}

-- The text that is written for a telegram: its bits, ones up to its size, and zeros up to a whole byte.
pub record IsWrittenTelegram (t : Telegram) (text : List ℕ) : Type 0 where
  pub bytes : List ℕ
  pub spelling : List Bool
  pub spelled : Spells (telegram_fields t) spelling
  pub fits : bit_count (telegram_fields t) ≤ user_bits t.size
  pub in_range : IsBytes bytes
  pub padded : bits_of_bytes bytes
      ≡ spelling ++ replicate (user_bits t.size - bit_count (telegram_fields t)) true
      ++ replicate (length bytes * 8 - user_bits t.size) false
  pub whole : length bytes * 8 < user_bits t.size + 8
  pub written : text ≡ encode_lower bytes

-- The text that is written for a message: its bits, and zeros up to a whole byte.
pub record IsWrittenMessage (m : Message) (text : List ℕ) : Type 0 where
  pub bytes : List ℕ
  pub spelling : List Bool
  pub spelled : Spells (message_fields (length bytes) m) spelling
  pub in_range : IsBytes bytes
  pub padded : bits_of_bytes bytes
      ≡ spelling ++ replicate (length bytes * 8 - bit_count (message_fields (length bytes) m)) false
  pub whole : length bytes * 8 < bit_count (message_fields (length bytes) m) + 8
  pub complete : has_required m ≡ true
  pub written : text ≡ encode_lower bytes
