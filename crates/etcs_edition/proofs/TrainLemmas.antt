-- The packets from train to track agree.
use Rattle.std.proofs.Common.{◌≡◌, ℕ, ◌+◌, ◌*◌, ◌/◌, ◌<◌, ◌==◌, true, List, [], ◌∷◌, ◌++◌, length, Option, Some, None, refl, sym, ◌∙◌, arith}
use Rattle.std.proofs.lemmas.List.{append-nil, length-append}
use Rattle.etcs_bits.specs.declared.variables.identity.Identity.{Identity}
use Rattle.etcs_bits.specs.declared.variables.train3.Train3.{Train3}
use Rattle.etcs_bits.specs.declared.variables.train3.Train3.TheVariants as relations
use Rattle.etcs_bits.specs.bits.Number.{num as bits_of, num_of_bits}
use Rattle.etcs_bits.proofs.NumberLemmas.{length-num, num_of_bits-small, num_of_bits-append, same_from_num}
use Rattle.etcs_bits.specs.layout.Rows.{Row, alone, width}
use Rattle.etcs_bits.specs.layout.Fields.{l_packet}
use Rattle.etcs_bits.specs.layout.Format.{chosen}
use Rattle.etcs_bits.specs.variables.Variables.{plain}
use Rattle.etcs_bits.specs.variables.Train3.{train3_variable, train3_number}
use Rattle.etcs_profile.specs.PacketNumbers.{nid_track as nid_train}
use Rattle.etcs_radio.specs.declared.integrity.Integrity.{Integrity}
use Rattle.etcs_radio.specs.declared.integrity.Integrity.TheVariants as lengths
use Rattle.etcs_radio.specs.declared.report.Report.{Report}
use Rattle.etcs_radio.specs.declared.raw_train.RawTrainPacket.{RawTrainPacket}
use Rattle.etcs_radio.specs.declared.train_packet.TrainPacket.{TrainPacket}
use Rattle.etcs_radio.specs.declared.train_packet.TrainPacket.TheVariants as packets
use Rattle.etcs_radio.specs.Integrity.{length_variable, q_length}
use Rattle.etcs_radio.specs.Lrbg.{nid_lrbg}
use Rattle.etcs_radio.specs.RawTrain.{other_of}
use Rattle.etcs_radio.specs.Report.{situation as situation_format, report_situation, report_numbered, parts_by_previous}
use Rattle.etcs_radio.specs.TrainPacket.{train_packet as train_format, train_numbered, numbered_report, all_but_the_end}
use Rattle.etcs_edition.specs.Wire.{Field, num}
use Rattle.etcs_edition.specs.Variables.{train3_field, identity_fields}
use Rattle.etcs_edition.specs.TrainPackets.{packet_to_track, integrity_fields, situation_fields, report_fields, train_packet_fields}
use Rattle.etcs_edition.proofs.AgreeLemmas.{Agree, same_num, agree_nothing, agree_both, agree_any, agree_last}
use Rattle.etcs_edition.proofs.VariableLemmas.{agree_scale, agree_level}
use Rattle.etcs_edition.proofs.TrackLemmas.{agree_body, agree_raw, no_end}

agree_train3 : (v : Train3) → Agree (alone train3_variable (train3_number v)) (train3_field v ∷ [])
agree_train3 relations.Reverse = agree_last train3_variable 0 refl
agree_train3 relations.Nominal = agree_last train3_variable 1 refl
agree_train3 relations.Unknown = agree_last train3_variable 2 refl

agree_integrity : (v : Integrity) → Agree (q_length.rows v) (integrity_fields v)
agree_integrity lengths.Q0 = agree_any length_variable 0 refl agree_nothing
agree_integrity (lengths.Q1 n) = agree_any length_variable 1 refl (agree_last (plain 15) n refl)
agree_integrity (lengths.Q2 n) = agree_any length_variable 2 refl (agree_last (plain 15) n refl)
agree_integrity lengths.Q3 = agree_any length_variable 3 refl agree_nothing

-- ---- NID_LRBG: one number of 24 bits is two numbers of 10 and 14

both_numbers : (c g : ℕ) → c < 1024 → g < 16384 → bits_of 24 (c * 16384 + g) ≡ bits_of 10 c ++ bits_of 14 g
both_numbers c g few some =
    let parts = bits_of 10 c ++ bits_of 14 g in
    let lengths : length (bits_of 24 (c * 16384 + g)) ≡ length parts =
    omega (arith, length-num 24 (c * 16384 + g), length-append (bits_of 10 c) (bits_of 14 g), length-num 10 c, length-num 14 g) in
    let whole : num_of_bits (bits_of 24 (c * 16384 + g)) ≡ c * 16384 + g =
    num_of_bits-small 24 (c * 16384 + g) (omega (arith, few, some)) in
    let split : num_of_bits parts ≡ c * 16384 + g =
    rw (num_of_bits-append (bits_of 10 c) (bits_of 14 g), length-num 14 g, num_of_bits-small 10 c few, num_of_bits-small 14 g some) refl in
    same_from_num (bits_of 24 (c * 16384 + g)) parts lengths (whole ∙ sym split)

no_bits : (n : ℕ) → bits_of 0 n ≡ []
unfolding bits_of
no_bits n = refl

pub agree_lrbg : (i : Identity) → Agree (nid_lrbg.rows i) (identity_fields i)
agree_lrbg i = record {
  fit = λ h.
      ((omega (arith, h.0.0, h.1.0.0), refl), ((omega (arith, h.1.0.0), refl), tt));
  allowed = λ h.
      ((omega (arith, h.0.0, h.1.0.0), refl), ((omega (arith, h.1.0.0), refl), tt));
  bits = λ h.
      let c : i.country < 1024 = omega (arith, h.0.0, h.1.0.0) in
      let g : i.group < 16384 = omega (arith, h.1.0.0) in
      rw (both_numbers i.country i.group c g, no_bits (i.group / 16384), append-nil (bits_of 10 i.country ++ bits_of 14 i.group), append-nil (num 14 i.group), same_num 10 i.country, same_num 14 i.group) refl;
  size = refl;
}

-- ---- packets

agree_situation : (r : Report) → Agree (situation_format.rows (report_situation r)) (situation_fields r)
agree_situation r =
    agree_any (plain 15) r.distance refl (
    agree_both (agree_train3 r.orientation) (
    agree_both (agree_train3 r.side) (
    agree_any (plain 15) r.doubt_over refl (
    agree_any (plain 15) r.doubt_under refl (
    agree_both (agree_integrity r.length) (
    agree_any (plain 7) r.speed refl (
    agree_both (agree_train3 r.running) (
    agree_any (plain 4) r.mode refl (
    agree_level r.level)))))))))

agree_to_track : (n : ℕ) {rows : List Row} {body : List Field} → nid_train.allows n ≡ true → Agree rows body
    → Agree (alone nid_train n ++ (alone l_packet (8 + (13 + width rows)) ++ rows)) (packet_to_track n body)
agree_to_track n is a = agree_any nid_train n is (agree_body 8 21 refl a)

agree_report : (previous : Option Identity) (r : Report)
    → Agree ((chosen nid_train train_numbered all_but_the_end).rows (numbered_report (parts_by_previous previous r))) (report_fields r previous)
agree_report None r =
    agree_to_track 0 refl (agree_both (agree_scale r.scale) (agree_both (agree_lrbg r.lrbg) (agree_situation r)))
agree_report (Some previous) r =
    agree_to_track 1 refl (
    agree_both (agree_scale r.scale) (
    agree_both (agree_lrbg r.lrbg) (agree_both (agree_lrbg previous) (agree_situation r))))

agree_raw_train : (p : RawTrainPacket) → Agree (train_format.rows (packets.Raw p)) (train_packet_fields (packets.Raw p))
agree_raw_train p =
    let other = other_of p.number (length p.body) p.kept in
    agree_any nid_train p.number (no_end (report_numbered.allows p.number) (p.number == 255) other) (
    agree_raw 8 21 p.body refl)

pub agree_train_packet : (p : TrainPacket) → Agree (train_format.rows p) (train_packet_fields p)
agree_train_packet (packets.Report r) = agree_report r.previous r
agree_train_packet (packets.Raw p) = agree_raw_train p
