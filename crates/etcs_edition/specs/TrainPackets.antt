-- The packets from train to track, each as its table of variables (SUBSET-026, 7.4.1 and 7.4.3). They report
-- where the train is; those with other numbers are kept as bits.
use Rattle.std.specs.Prelude.{ℕ, ◌+◌, List, [], ◌∷◌, ◌++◌, Option, Some, None}
use Rattle.etcs_bits.specs.declared.variables.identity.Identity.{Identity}
use Rattle.etcs_radio.specs.declared.integrity.Integrity.{Integrity}
use Rattle.etcs_radio.specs.declared.integrity.Integrity.TheVariants as lengths
use Rattle.etcs_radio.specs.declared.report.Report.{Report}
use Rattle.etcs_radio.specs.declared.train_packet.TrainPacket.{TrainPacket}
use Rattle.etcs_radio.specs.declared.train_packet.TrainPacket.TheVariants as packets
use Rattle.etcs_edition.specs.Wire.{Field, any_number, bit_count, raw_fields}
use Rattle.etcs_edition.specs.Variables.{scale_field, train3_field, level_fields, identity_fields}

-- The head of a packet and its body (7.4.1). L_PACKET counts all bits of the packet.
abbrev pub packet_to_track : ℕ → List Field → List Field
packet_to_track n body =
    any_number 8 n  -- NID_PACKET
    ∷ any_number 13 (21 + bit_count body) ∷ body  -- L_PACKET

-- ---- packets 0 and 1, position report (3.6.5 and 7.4.3)

-- what the train knows about its integrity: Q_LENGTH, and L_TRAININT after 1 and 2
abbrev pub integrity_fields : Integrity → List Field
integrity_fields lengths.Q0 = any_number 2 0 ∷ []
integrity_fields (lengths.Q1 n) = any_number 2 1 ∷ any_number 15 n ∷ []
integrity_fields (lengths.Q2 n) = any_number 2 2 ∷ any_number 15 n ∷ []
integrity_fields lengths.Q3 = any_number 2 3 ∷ []

-- what packets 0 and 1 share
abbrev pub situation_fields : Report → List Field
situation_fields r =
    any_number 15 r.distance  -- D_LRBG
    ∷ train3_field r.orientation  -- Q_DIRLRBG
    ∷ train3_field r.side  -- Q_DLRBG
    ∷ any_number 15 r.doubt_over  -- L_DOUBTOVER
    ∷ any_number 15 r.doubt_under  -- L_DOUBTUNDER
    ∷ integrity_fields r.length  -- Q_LENGTH, L_TRAININT
    ++ any_number 7 r.speed  -- V_TRAIN
    ∷ train3_field r.running  -- Q_DIRTRAIN
    ∷ any_number 4 r.mode  -- M_MODE
    ∷ level_fields r.level  -- M_LEVEL, NID_NTC

-- the packet: 0, or 1 with the group before the last one
abbrev pub report_fields : Report → Option Identity → List Field
report_fields r None =
    packet_to_track 0 (
    scale_field r.scale  -- Q_SCALE
    ∷ identity_fields r.lrbg  -- NID_LRBG
    ++ situation_fields r)
report_fields r (Some previous) =
    packet_to_track 1 (
    scale_field r.scale  -- Q_SCALE
    ∷ identity_fields r.lrbg  -- NID_LRBG
    ++ identity_fields previous  -- NID_PRVLRBG
    ++ situation_fields r)

-- ---- each packet

abbrev pub train_packet_fields : TrainPacket → List Field
train_packet_fields (packets.Report r) = report_fields r r.previous
train_packet_fields (packets.Raw p) = packet_to_track p.number (raw_fields p.body)
