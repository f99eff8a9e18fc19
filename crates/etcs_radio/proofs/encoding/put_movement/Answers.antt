use Rattle.std.proofs.Common.{◌≡◌, refl, ap, inl}
use Rattle.etcs_profile.specs.Track.{track_packet}
use Rattle.etcs_radio.specs.Head.{MovementHead}
use Rattle.etcs_radio.proofs.WriteLemmas.{written, allowed, movement_bits, movement_head_allowed}
use Rattle.etcs_radio.proofs.encoding.put_movement.Goals as goal

abbrev fields : goal.After-write_packets → MovementHead
fields c = (c.time.result, (c.ack.result, c.new.result))

are : (c : goal.After-write_packets) → fields c ≡ (c.args.message.now.time, (c.args.message.now.ack, c.args.message.now.lrbg))
are c = rw (c.time.ensures, c.ack.ensures, c.new.ensures, c.lrbg.ensures) refl

-- the head, and then the packets
pub returns-clause-bits : goal.returns-clause-bits
returns-clause-bits c =
    written c.write_packets.result track_packet (inl (fields c)) _ c.args.count _ _ c.packets.result.now _ c.args.out.now c.push_num.new.self c.push_num-2.new.self c.write.new.out c.write_packets.new.out
    (movement_bits c.args.count (fields c)) (ap inl (are c)) c.packets.ensures.packets c.in_ok-push_num.ensures.ok c.in_ok-push_num-2.ensures.ok c.in_ok-write.ensures.ok c.write_packets.ensures.ok

-- the types keep both allowed
pub returns-clause-allowed : goal.returns-clause-allowed
returns-clause-allowed c =
    let first = c.is_allowed-allowed.ensures.allowed.0 (c.is_allowed-allowed.ensures.fit.1 (tt, (tt, tt))) in
    allowed c.write_packets.result track_packet (inl (fields c)) _ c.args.count c.packets.result.now _ (ap inl (are c)) c.packets.ensures.packets
    (movement_head_allowed c.args.count (fields c) c.requires first) c.write_packets.ensures.allowed
