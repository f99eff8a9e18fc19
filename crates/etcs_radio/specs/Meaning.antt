-- What the bytes of a radio message mean, as a function of them.
-- Pinned by the law messages_are_decoded.
-- Pinned by the law faults_are_meant.
use Rattle.std.specs.Prelude.{ℕ, Bool, if◌then◌else◌, List, length, Result, Ok, Err}
use Rattle.std.proofs.Common.{inl, inr}
use Rattle.etcs_bits.specs.declared.layout.fault.Fault.{Fault}
use Rattle.etcs_bits.specs.declared.layout.fault.FaultKind.{FaultKind}
use Rattle.etcs_bits.specs.declared.layout.fault.FaultKind.TheVariants.{NoAuthority, NoReport}
use Rattle.etcs_bits.specs.layout.Rows.{Place}
use Rattle.etcs_bits.specs.layout.Format.{Format}
use Rattle.etcs_bits.specs.layout.Reading.{◌>>=◌, read_rows}
use Rattle.etcs_packet.specs.declared.stop.Stop.TheVariants as stops
use Rattle.etcs_profile.specs.declared.track.TrackPacket.{TrackPacket}
use Rattle.etcs_profile.specs.Track.{track_packet}
use Rattle.etcs_packet.specs.Reading.{read_list}
use Rattle.etcs_radio.specs.declared.message.Message.{Message}
use Rattle.etcs_radio.specs.declared.message.Message.TheVariants as messages
use Rattle.etcs_radio.specs.declared.train_packet.TrainPacket.{TrainPacket}
use Rattle.etcs_radio.specs.Head.{Head, MovementHead, PositionHead, head}
use Rattle.etcs_radio.specs.Message.{beginning}
use Rattle.etcs_radio.specs.Required.{has_authority, has_report}
use Rattle.etcs_radio.specs.TrainPacket.{train_packet}

-- packets up to a place, if the required one is among them
abbrev pub complete : {X : Type 0} → (List X → Bool) → FaultKind → List X × Place → Result (List X) Fault
complete has why read =
    if has read.0 then Ok read.0
    else Err (record { at = read.1.at; end = length read.1.bits; why = why })

-- the message of a head and packets
abbrev pub movement_message : MovementHead → List TrackPacket → Message
movement_message h packets =
    messages.Movement (record { time = h.0; ack = h.1.0; lrbg = h.1.1; packets = packets })

abbrev pub position_message : PositionHead → List TrainPacket → Message
position_message h packets = messages.Position (record { time = h.0; engine = h.1; packets = packets })

-- the message that the packets here make, if the required one is among them
unfoldable pub read_message_list : {X : Type 0} → Format X → (List X → Bool) → FaultKind → (List X → Message)
    → Place → Result Message Fault
read_message_list x has why make p =
    read_list stops.Message x.fields x.of p
    >>= λ read. complete has why read >>= λ packets. Ok (make packets)

-- the message of this head and the packets here
abbrev pub read_message_packets : Head → Place → Result Message Fault
read_message_packets (inl h) p =
    read_message_list track_packet has_authority NoAuthority (movement_message h) p
read_message_packets (inr h) p = read_message_list train_packet has_report NoReport (position_message h) p

-- what bytes mean: their message, or their first fault
unfoldable pub read_message : List ℕ → Result Message Fault
read_message bytes =
    read_rows (head (length bytes)).fields (beginning bytes)
    >>= λ first. read_message_packets ((head (length bytes)).of first.0) first.1
