-- A stream of radio messages. Each message begins with NID_MESSAGE, eight bits, and L_MESSAGE, ten
-- bits: the number of its bytes (SUBSET-026, 8.4.4). The end of a message depends only on L_MESSAGE.
use Rattle.std.specs.Prelude.{◌≡◌, ℕ, ◌<◌, ◌≤◌, ◌⊎◌, List, ◌++◌, length, take, drop, All}
use Rattle.std.specs.List.{concat}
use Rattle.etcs_bits.specs.bits.Number.{num_of_bits, bits_of_bytes}

-- L_MESSAGE: the number that bits 8 to 17 spell
abbrev pub message_length : List ℕ → ℕ
message_length bytes = num_of_bits (take 10 (drop 8 (bits_of_bytes bytes)))

-- The bytes are as many as one message has: at least three, and as many as L_MESSAGE counts.
pub record AreOneMessageLong (bytes : List ℕ) : Type 0 where
  pub three : 3 ≤ length bytes
  pub count : length bytes ≡ message_length bytes

-- No message begins with the bytes: they are three, and L_MESSAGE is below 3.
pub record AreBroken (bytes : List ℕ) : Type 0 where
  pub three : length bytes ≡ 3
  pub small : message_length bytes < 3

-- The bytes begin with no complete message: they are fewer than three, or fewer than
-- L_MESSAGE counts, or L_MESSAGE is below 3.
abbrev pub AreRest : List ℕ → Type 0
AreRest bytes = 3 ≤ length bytes → (length bytes < message_length bytes) ⊎ (message_length bytes < 3)

-- The bytes are these messages, one after the other, and then a rest.
pub record AreMessages (messages : List (List ℕ)) (rest bytes : List ℕ) : Type 0 where
  pub join : bytes ≡ concat messages ++ rest
  pub whole : All AreOneMessageLong messages
  pub cut_off : AreRest rest
