-- Radio messages (SUBSET-026, 8.4.4, 8.6 and 8.7): a head whose L_MESSAGE counts the bytes, packets,
-- and a rest that carries no information. The packets end when fewer than eight bits are left, or at
-- eight ones.
use Rattle.std.specs.Prelude.{◌≡◌, ℕ, ◌+◌, ◌-◌, ◌*◌, ◌<◌, ◌⊎◌, Bool, true, false, List, ◌++◌, length, take, replicate, IsOk}
use Rattle.std.proofs.Common.{inl, inr}
use Rattle.std.specs.List.{flat_map}
use Rattle.hex.specs.Hex.{IsBytes}
use Rattle.etcs_bits.specs.declared.layout.fault.Fault.{Fault}
use Rattle.etcs_bits.specs.declared.layout.fault.FaultKind.{FaultKind}
use Rattle.etcs_bits.specs.declared.layout.fault.FaultKind.TheVariants.{NoAuthority, NoReport}
use Rattle.etcs_bits.specs.bits.Number.{bits_of_bytes}
use Rattle.etcs_bits.specs.layout.Rows.{Row, Place, AreAllowed, join, width, IsSpelled}
use Rattle.etcs_bits.specs.layout.Fault.{IsFault}
use Rattle.etcs_bits.specs.layout.Fields.{Fields}
use Rattle.etcs_bits.specs.layout.Reading.{read_rows}
use Rattle.etcs_packet.specs.declared.stop.Stop.TheVariants as stops
use Rattle.etcs_packet.specs.Lists.{Stand, IsListFault, ends}
use Rattle.etcs_profile.specs.Track.{track_grows, track_packet}
use Rattle.etcs_packet.specs.Whole.{start}
use Rattle.etcs_radio.specs.declared.message.Message.{Message}
use Rattle.etcs_radio.specs.declared.message.Message.TheVariants as messages
use Rattle.etcs_radio.specs.Head.{Head, head}
use Rattle.etcs_radio.specs.RawTrain.{raw_train_grows}
use Rattle.etcs_radio.specs.Required.{has_authority, has_report}
use Rattle.etcs_radio.specs.TrainPacket.{train_packet}

-- the head of a message
abbrev pub message_head : Message → Head
message_head (messages.Movement m) = inl (m.time, (m.ack, m.lrbg))
message_head (messages.Position m) = inr (m.time, m.engine)

-- The packets of a message are between two positions, and end at the second one.
abbrev pub PacketsStand : Message → Place → Place → Type 0
PacketsStand (messages.Movement m) p q = Stand stops.Message track_packet.rows m.packets p q
PacketsStand (messages.Position m) p q = Stand stops.Message train_packet.rows m.packets p q

-- whether a message holds the packet that its kind requires
abbrev pub is_complete : Message → Bool
is_complete (messages.Movement m) = has_authority m.packets
is_complete (messages.Position m) = has_report m.packets

-- the position at which bytes begin
abbrev pub beginning : List ℕ → Place
beginning bytes = start (bits_of_bytes bytes)

-- The bytes are this message. Its head is at their beginning, and L_MESSAGE is their count. Its
-- packets follow. What comes after the packets' end carries no information.
pub record IsMessage (m : Message) (bytes : List ℕ) : Type 0 where
  pub middle : Place
  pub end : Place
  pub first : IsSpelled ((head (length bytes)).rows (message_head m)) (beginning bytes) middle
  pub packets : PacketsStand m middle end
  pub complete : is_complete m ≡ true

-- ---- bytes that are no message

-- Packets are here, and the required one is not among them. The fault is at their end, and depends on the
-- length of the input.
pub record IsIncomplete {X : Type 0} (rows : X → List Row) (has : List X → Bool) (why : FaultKind)
    (from : Place) (fault : Fault) : Type 0 where
  pub packets : List X
  pub end : Place
  pub stand : Stand stops.Message rows packets from end
  pub incomplete : has packets ≡ false
  pub is_fault : fault ≡ record { at = end.at; end = length from.bits; why = why }

-- the fault of the packets that follow a head
abbrev pub IsPacketsFault : Head → Place → Fault → Type 0
IsPacketsFault (inl h) p f =
    IsListFault stops.Message track_packet.fields p f
    ⊎ IsIncomplete track_packet.rows has_authority NoAuthority p f
IsPacketsFault (inr h) p f =
    IsListFault stops.Message train_packet.fields p f
    ⊎ IsIncomplete train_packet.rows has_report NoReport p f

-- a head is at the beginning, and the packets after it have the fault
pub record IsLaterFault (bytes : List ℕ) (fault : Fault) : Type 0 where
  pub h : Head
  pub middle : Place
  pub first : IsSpelled ((head (length bytes)).rows h) (beginning bytes) middle
  pub is_fault : IsPacketsFault h middle fault

-- the first fault of bytes: a fault of the head, or of the packets after a complete head
abbrev pub IsMessageFault : List ℕ → Fault → Type 0
IsMessageFault bytes f =
    IsFault (head (length bytes)).fields (beginning bytes) f ⊎ IsLaterFault bytes f

-- No bytes of equal number that begin with these first `end` bits are a message.
abbrev pub IsNoMessage : List ℕ → Fault → Type 0
IsNoMessage bytes f =
    (others : List ℕ) → length others ≡ length bytes
    → take f.end (bits_of_bytes others) ≡ take f.end (bits_of_bytes bytes)
    → (m : Message) → IsMessage m others → ⊥

-- ---- where decoding a message may ask for memory

-- A packet is due here, and it grows or has no fault.
abbrev pub ListGrows : Fields → (Place → Type 0) → Place → Type 0
ListGrows item Grows p = (ends stops.Message p ≡ false) × (Grows p ⊎ IsOk (read_rows item p))

-- the packets that follow a head
abbrev pub PacketsGrow : Head → Place → Type 0
PacketsGrow (inl h) p = ListGrows track_packet.fields track_grows p
PacketsGrow (inr h) p = ListGrows train_packet.fields raw_train_grows p

-- A head is at the beginning, and the packets after it grow.
pub record MessageGrows (bytes : List ℕ) : Type 0 where
  pub h : Head
  pub middle : Place
  pub first : IsSpelled ((head (length bytes)).rows h) (beginning bytes) middle
  pub packets : PacketsGrow h middle

-- ---- from a message to bytes

-- the rows of the packets
abbrev pub packet_rows : Message → List Row
packet_rows (messages.Movement m) = flat_map track_packet.rows m.packets
packet_rows (messages.Position m) = flat_map train_packet.rows m.packets

-- the rows of a message of n bytes
abbrev pub message_rows : ℕ → Message → List Row
message_rows n m = (head n).rows (message_head m) ++ packet_rows m

-- the number of bits of the head and the packets
abbrev pub used_bits : Message → ℕ
used_bits (messages.Movement m) = 75 + width (flat_map track_packet.rows m.packets)
used_bits (messages.Position m) = 74 + width (flat_map train_packet.rows m.packets)

-- the head and the packets have more bits than 1,023 bytes, the most that L_MESSAGE can count
abbrev pub IsTooBig : Message → Type 0
IsTooBig m = 8184 < used_bits m

-- The bytes are the message's canonical spelling: its head, its packets, and fewer than eight zeros
-- (this project's rule). None of its numbers is spare, and it contains its required packet.
pub record IsEncoding (m : Message) (bytes : List ℕ) : Type 0 where
  pub in_range : IsBytes bytes
  pub allowed : AreAllowed (message_rows (length bytes) m)
  pub few : 8 * length bytes < used_bits m + 8
  pub canonical : bits_of_bytes bytes
      ≡ join (message_rows (length bytes) m) ++ replicate (8 * length bytes - used_bits m) false
  pub complete : is_complete m ≡ true
