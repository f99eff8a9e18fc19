-- A splitter: it is fed pieces of a stream, and holds one message at a time. The bytes that it
-- holds decide its state.
use Rattle.std.specs.Prelude.{◌≡◌, ◌≢◌, ℕ, ◌<◌, ◌≤◌, ◌==◌, ◌&&◌, nat_le, nat_lt, max, if◌then◌else◌, List, ◌++◌, length, take}
use Rattle.etcs_radio.specs.declared.splitter.State.{State}
use Rattle.etcs_radio.specs.declared.splitter.State.TheVariants.{More, Ready, Failed}
use Rattle.etcs_radio.specs.Stream.{message_length}

-- ---- the state
-- Pinned by the law states_are_meant.

-- The state of a splitter that holds these bytes. It is ready if they are a complete message, has
-- failed if no message begins with them, and else waits for more.
unfoldable pub splitter_state : List ℕ → State
splitter_state bytes =
    if nat_le 3 (length bytes) && (length bytes == message_length bytes) then Ready
    else (if (length bytes == 3) && nat_lt (message_length bytes) 3 then Failed else More)

-- ---- what is taken

-- A splitter that holds these bytes takes `used` bytes from the front of the piece: the least number
-- after which it no longer waits, otherwise the whole piece.
pub record IsTaken (held piece : List ℕ) (used : ℕ) : Type 0 where
  pub within : used ≤ length piece
  pub waits_before : (n : ℕ) → n < used → splitter_state (held ++ take n piece) ≡ More
  pub waits_no_more : used < length piece → splitter_state (held ++ take used piece) ≢ More

-- A splitter may hold these bytes: no byte follows a complete message, or three bytes that no message
-- begins with.
abbrev pub MayBeHeld : List ℕ → Type 0
MayBeHeld bytes = length bytes ≤ max 3 (message_length bytes)
