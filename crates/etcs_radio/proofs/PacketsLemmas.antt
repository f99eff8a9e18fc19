-- From the packets that the code reads to what bytes mean.
use Rattle.std.proofs.Common.{◌≡◌, true, false, Bool, List, length, Result, Ok, Err, refl, sym, ap, ◌∙◌}
use Rattle.std.specs.Prelude.{◌↔◌, IsOk}
use Rattle.etcs_bits.specs.declared.layout.fault.FaultKind.{FaultKind}
use Rattle.etcs_bits.specs.declared.layout.fault.DecodeError.{DecodeError}
use Rattle.etcs_bits.specs.declared.layout.fault.DecodeError.TheVariants as errors
use Rattle.etcs_bits.specs.declared.variables.identity.Identity.{Identity}
use Rattle.etcs_bits.specs.layout.Rows.{Place}
use Rattle.etcs_bits.specs.layout.Format.{Format}
use Rattle.etcs_bits.specs.layout.Results.{Fails, OfMemory}
use Rattle.etcs_packet.specs.declared.stop.Stop.TheVariants as stops
use Rattle.etcs_profile.specs.declared.track.TrackPacket.{TrackPacket}
use Rattle.etcs_packet.specs.Reading.{read_list}
use Rattle.etcs_radio.specs.declared.message.Message.{Message}
use Rattle.etcs_radio.specs.declared.message.Message.TheVariants as messages
use Rattle.etcs_radio.specs.declared.train_packet.TrainPacket.{TrainPacket}
use Rattle.etcs_radio.specs.Head.{MovementHead, PositionHead}
use Rattle.etcs_radio.specs.Record.{Movement, Position}
use Rattle.etcs_radio.specs.Meaning.{read_message_list, movement_message, position_message}

-- both hold if memory ran out
pub both_memory : (P Q : Type 0) (e : DecodeError) → OfMemory e P → OfMemory e Q → OfMemory e (P × Q)
both_memory P Q errors.Memory first second = (first, second)
both_memory P Q (errors.Fault f) first second = tt

-- if reading the packets fails, reading the message fails
pub by_fails : {X : Type 0} (x : Format X) (has : List X → Bool) (why : FaultKind) (make : List X → Message)
    (e : DecodeError) (p : Place) → Fails e (read_list stops.Message x.fields x.of p)
    → Fails e (read_message_list x has why make p)
unfolding read_message_list
by_fails x has why make errors.Memory p fails = tt
by_fails x has why make (errors.Fault f) p fails = rw fails refl

-- packets with the required one
pub by_ok : {X : Type 0} (x : Format X) (has : List X → Bool) (why : FaultKind) (make : List X → Message)
    (xs : List X) (p q : Place) → read_list stops.Message x.fields x.of p ≡ Ok (xs, q) → has xs ≡ true
    → read_message_list x has why make p ≡ Ok (make xs)
unfolding read_message_list
by_ok x has why make xs p q read there = rw (read, there) refl

-- packets without it
pub by_err : {X : Type 0} (x : Format X) (has : List X → Bool) (why : FaultKind) (make : List X → Message)
    (xs : List X) (p q : Place) → read_list stops.Message x.fields x.of p ≡ Ok (xs, q) → has xs ≡ false
    → read_message_list x has why make p ≡ Err (record { at = q.at; end = length q.bits; why = why })
unfolding read_message_list
by_err x has why make xs p q read none = rw (read, none) refl

-- if a constructor fails, the required packet is not there
pub not_there : {A E : Type 0} (r : Result A E) (e : E) (b : Bool) → IsOk r ↔ (b ≡ true) → r ≡ Err e → b ≡ false
not_there r e true made is = let ok = rw is at (made.1 refl) in absurd cc
not_there r e false made is = refl

-- the message that a constructor made is the message of the head and the packets
pub movement_made : (h : MovementHead) (packets : List TrackPacket) (lrbg : Identity) (m : Movement) → lrbg ≡ h.1.1
    → m ≡ record { time = h.0; ack = h.1.0; lrbg = lrbg; packets = packets }
    → movement_message h packets ≡ messages.Movement m
movement_made h packets lrbg m same is =
    ap messages.Movement (ap (λ (l : Identity). record { time = h.0; ack = h.1.0; lrbg = l; packets = packets }) (sym same) ∙ sym is)

pub position_made : (h : PositionHead) (packets : List TrainPacket) (m : Position)
    → m ≡ record { time = h.0; engine = h.1; packets = packets } → position_message h packets ≡ messages.Position m
position_made h packets m is = ap messages.Position (sym is)
