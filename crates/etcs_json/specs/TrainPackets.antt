-- The form of a packet from train to track (SUBSET-026, 7.4.3). NID_PACKET decides it.
use Rattle.std.specs.Prelude.{◌≤◌, codes, length, refl}
use Rattle.etcs_schema.specs.Prelude.{arith, ranged}
use Rattle.etcs_profile.specs.PacketNumbers.{nid_track as nid_train}
use Rattle.etcs_radio.specs.RawTrain.{other_of, others as other_bits}
use Rattle.etcs_radio.specs.TrainNumbers.{nid_raw}
use Rattle.etcs_radio.specs.TrainPacket.{NumberedTrainPacket, again, train_parts, make_train_packet}
use Rattle.etcs_radio.specs.declared.raw_train.RawTrainPacket.{RawTrainPacket}
use Rattle.etcs_radio.specs.declared.train_packet.TrainPacket.{TrainPacket}
use Rattle.etcs_schema.specs.Choices.{Choice, HasNumber, begins_with, chosen, either, others}
use Rattle.etcs_schema.specs.Head.{nid_range}
use Rattle.etcs_json.specs.RawTrain.{raw_train_packet}
use Rattle.etcs_json.specs.Report.{situation, with_one, with_two}
use Rattle.etcs_schema.specs.Codec.{Codec, object, renamed}
use Rattle.etcs_schema.specs.Variables.{is_allowed}

pub raw_has : (p : RawTrainPacket) → HasNumber (codes "nid_packet") p.number ((object raw_train_packet).to p)
unfolding raw_train_packet
raw_has p = begins_with (codes "nid_packet") p.number raw_train_packet p _ refl

-- a packet whose layout is not known
abbrev pub raw : Choice (codes "nid_packet") nid_train RawTrainPacket
raw =
    others nid_raw (λ p. p.number) other_bits.rows raw_train_packet refl
    (λ p. other_of p.number (length p.body) p.kept) raw_has

abbrev pub train_numbered : Choice (codes "nid_packet") nid_train NumberedTrainPacket
train_numbered = either with_one (either with_two raw refl) refl

-- NID_PACKET is read first; 255, the end mark, is the number of no packet
abbrev pub train_packet : Codec TrainPacket
train_packet = renamed make_train_packet train_parts again
    (chosen (codes "nid_packet") (is_allowed (ranged 8 254 256)) train_numbered
    (λ v nid. nid_range (train_numbered.number v) nid.0 nid.1))

pub train_shallow : train_packet.back.0 ≤ 100
unfolding with_one with_two situation raw_train_packet
train_shallow = omega arith
