use Rattle.std.proofs.Common.{◌≡◌, refl, ap, inr}
use Rattle.etcs_bits.proofs.FitLemmas.{all_fit}
use Rattle.etcs_radio.specs.Head.{PositionHead}
use Rattle.etcs_radio.specs.TrainPacket.{train_packet}
use Rattle.etcs_radio.proofs.WriteLemmas.{written, allowed, position_bits, position_head_allowed}
use Rattle.etcs_radio.proofs.encoding.put_position.Goals as goal

abbrev fields : goal.After-write_items → PositionHead
fields c = (c.time.result, c.engine.result)

are : (c : goal.After-write_items) → fields c ≡ (c.args.message.now.time, c.args.message.now.engine)
are c = rw (c.time.ensures, c.engine.ensures) refl

-- the head, and then the packets
pub returns-clause-bits : goal.returns-clause-bits
returns-clause-bits c =
    written c.write_items.result train_packet (inr (fields c)) _ c.args.count _ _ c.packets-2.result.now _ c.args.out.now c.push_num.new.self c.push_num-2.new.self c.write.new.out c.write_items.new.out
    (position_bits c.args.count (fields c)) (ap inr (are c)) c.packets-2.ensures.packets c.in_ok-push_num.ensures.ok c.in_ok-push_num-2.ensures.ok c.in_ok-write.ensures.ok c.write_items.ensures.ok

-- the types keep both allowed
pub returns-clause-allowed : goal.returns-clause-allowed
returns-clause-allowed c =
    let first = c.is_allowed-allowed.ensures.allowed.0 (c.is_allowed-allowed.ensures.fit.1 (tt, tt)) in
    allowed c.write_items.result train_packet (inr (fields c)) _ c.args.count c.packets.result.now _ (ap inr (are c)) c.packets.ensures.packets
    (position_head_allowed c.args.count (fields c) c.requires first) (c.are_allowed-packets.ensures.allowed.0 (c.are_allowed-packets.ensures.fit.1 (all_fit c.packets.result.now)))
