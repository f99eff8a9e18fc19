-- A radio message, and the text that gives it (SUBSET-026, 8.4.4, 8.6 and 8.7). Message 3 gives a train its
-- movement authority, message 136 reports where a train is.
use Rattle.std.specs.Prelude.{◌≡◌, ℕ, ◌<◌, ◌==◌, ◌⊎◌, ◌||◌, Bool, true, false, Ok, List, [], ◌∷◌, ◌++◌, length}
use Rattle.std.specs.List.{flat_map, list_any}
use Rattle.hex.specs.Hex.{decode_of}
use Rattle.etcs_radio.specs.declared.message.Message.{Message}
use Rattle.etcs_radio.specs.declared.message.Message.TheVariants as messages
use Rattle.etcs_edition.specs.Wire.{Field, num, bits_of_bytes, any_number, bit, Spells}
use Rattle.etcs_edition.specs.Variables.{identity_fields}
use Rattle.etcs_edition.specs.TrackPackets.{track_packet_fields}
use Rattle.etcs_edition.specs.TrainPackets.{train_packet_fields}

-- message 3 (8.7) and message 136 (8.6), if it has this number of bytes
abbrev pub message_fields : ℕ → Message → List Field
message_fields bytes (messages.Movement m) =
    any_number 8 3  -- NID_MESSAGE
    ∷ any_number 10 bytes  -- L_MESSAGE
    ∷ any_number 32 m.time  -- T_TRAIN
    ∷ bit m.ack  -- M_ACK
    ∷ identity_fields m.lrbg  -- NID_LRBG
    ++ flat_map track_packet_fields m.packets
message_fields bytes (messages.Position m) =
    any_number 8 136  -- NID_MESSAGE
    ∷ any_number 10 bytes  -- L_MESSAGE
    ∷ any_number 32 m.time  -- T_TRAIN
    ∷ any_number 24 m.engine  -- NID_ENGINE
    ∷ flat_map train_packet_fields m.packets

-- whether a packet of these fields has this number: NID_PACKET is the first of them
abbrev pub has_number : ℕ → List Field → Bool
has_number n [] = false
has_number n (nid_packet ∷ fields) = nid_packet.number == n

-- whether the required packet is there (this project's rule): packet 15 in message 3, packet 0 or 1 in message 136
abbrev pub has_required : Message → Bool
has_required (messages.Movement m) = list_any (λ p. has_number 15 (track_packet_fields p)) m.packets
has_required (messages.Position m) =
    list_any (λ p. has_number 0 (train_packet_fields p) || has_number 1 (train_packet_fields p)) m.packets

-- The bytes are the bits of the message, and a rest: fewer than eight bits, or packet 255, the end mark, and
-- a fill that carries no information. The required packet is there.
pub record IsMessage (m : Message) (bytes : List ℕ) : Type 0 where
  pub rest : List Bool
  pub spelling : List Bool
  pub spelled : Spells (message_fields (length bytes) m) spelling
  pub are : bits_of_bytes bytes ≡ spelling ++ rest
  pub over : (length rest < 8) ⊎ ((fill : List Bool) × (rest ≡ num 8 255 ++ fill))
  pub complete : has_required m ≡ true

-- The text is the hexadecimal digits of the bytes.
pub record IsMessageText (m : Message) (text : List ℕ) : Type 0 where
  pub bytes : List ℕ
  pub decoded : decode_of text ≡ Ok bytes
  pub message : IsMessage m bytes
