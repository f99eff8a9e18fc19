-- A radio message spelled out, as the laws of messages have it.
use Rattle.std.specs.Prelude.{◌≡◌, ℕ, ◌<◌, ◌⊎◌, true, List, Bool, ◌++◌, length}
use Rattle.etcs_bits.specs.bits.Number.{num, bits_of_bytes}
use Rattle.etcs_bits.specs.layout.Rows.{AreAllowed, join}
use Rattle.etcs_radio.specs.declared.message.Message.{Message}
use Rattle.etcs_radio.specs.Message.{message_rows, is_complete}

-- The bytes are the message's head, with L_MESSAGE as their count, its packets and a rest. The rest
-- has fewer than eight bits or begins with eight ones. None of the message's numbers is spare, and the
-- message contains its required packet.
pub record IsCompleteSpelling (m : Message) (bytes : List ℕ) : Type 0 where
  pub rest : List Bool
  pub allowed : AreAllowed (message_rows (length bytes) m)
  pub over : (length rest < 8) ⊎ ((fill : List Bool) × (rest ≡ num 8 255 ++ fill))
  pub are : bits_of_bytes bytes ≡ join (message_rows (length bytes) m) ++ rest
  pub complete : is_complete m ≡ true
