-- The forms of radio messages, 3 and 136 (SUBSET-026, 8.6 and 8.7). Each key is named as the standard names
-- its variable, in small letters; `packets` is this project's. NID_LRBG is two keys, its country and its
-- number there. L_MESSAGE follows from the packets and has no key. Keys are in the order in which they are
-- read.
use Rattle.std.specs.Prelude.{List, codes, refl}
use Rattle.etcs_schema.specs.Prelude.{and_from, arith, flat_map, lt-ltb, pair_rows, Row, nid_bg, nid_c}
use Rattle.etcs_radio.specs.Head.{m_ack, nid_engine, t_train}
use Rattle.etcs_radio.specs.Record.{Movement, Position}
use Rattle.etcs_radio.specs.Required.{has_authority, has_report}
use Rattle.etcs_schema.specs.Choices.{NumberedMembers, numbered_members}
use Rattle.etcs_schema.specs.Fault.{Fault, Range, at_once, key as key_step}
use Rattle.etcs_schema.specs.Lists.{holding, listed, rows_holding}
use Rattle.etcs_schema.specs.Codec.{key, named, ◌then◌}
use Rattle.etcs_schema.specs.Variables.{flag, number}
use Rattle.etcs_json.specs.TrackPackets.{track_packet, track_shallow}
use Rattle.etcs_json.specs.TrainPackets.{train_packet, train_shallow}

-- the fault of a message without the packet that its kind must contain
abbrev pub no_packet : Fault
no_packet = at_once Range (key_step (codes "packets"))

-- its rows after the number, in the order of the keys
abbrev pub movement_rows : Movement → List Row
movement_rows =
    rows_holding (λ m. has_authority m.packets)
    (λ m. pair_rows t_train.rows
    (pair_rows m_ack.rows (pair_rows nid_c.rows (pair_rows nid_bg.rows (flat_map track_packet.rows))))
    (m.time, (m.ack, (m.lrbg.country, (m.lrbg.group, m.packets)))))

-- message 3: a packet 15 is among its packets
unfoldable pub movement : NumberedMembers (codes "nid_message") 3 movement_rows
movement =
    numbered_members (holding no_packet (λ m. has_authority m.packets) (named
    (λ p. record {
      time = p.0;
      ack = p.1.0;
      lrbg = record { country = p.1.1.0; group = p.1.1.1.0 };
      packets = p.1.1.1.1;
    })
    (λ m. (m.time, (m.ack, (m.lrbg.country, (m.lrbg.group, m.packets)))))
    (λ _. refl)
    (key (codes "t_train") (number t_train.fields)
    then key (codes "m_ack") flag then key (codes "nid_c") (number nid_c.fields)
    then key (codes "nid_bg") (number nid_bg.fields) then key (codes "packets") (listed track_packet))))
    (and_from _ _ refl (lt-ltb _ _ (omega (arith, track_shallow))))

abbrev pub position_rows : Position → List Row
position_rows = rows_holding (λ m. has_report m.packets)
    (λ m. pair_rows t_train.rows
    (pair_rows nid_engine.rows (flat_map train_packet.rows)) (m.time, (m.engine, m.packets)))

-- message 136: a packet 0 or 1 is among its packets
unfoldable pub position : NumberedMembers (codes "nid_message") 136 position_rows
position =
    numbered_members (holding no_packet (λ m. has_report m.packets) (named
    (λ p. record { time = p.0; engine = p.1.0; packets = p.1.1 })
    (λ m. (m.time, (m.engine, m.packets)))
    (λ _. refl)
    (key (codes "t_train") (number t_train.fields)
    then key (codes "nid_engine") (number nid_engine.fields)
    then key (codes "packets") (listed train_packet))))
    (and_from _ _ refl (lt-ltb _ _ (omega (arith, train_shallow))))
