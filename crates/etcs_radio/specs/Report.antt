-- Train packets 0 and 1, the position reports of a train (SUBSET-026, 3.6.5 and 7.4.3): where the
-- train is, as seen from the last relevant group. Packet 1 has the group before that too.
use Rattle.std.specs.Prelude.{◌≡◌, ℕ, ◌⊎◌, false, Option, Some, None, refl}
use Rattle.std.proofs.Common.{inl, inr}
use Rattle.etcs_bits.specs.declared.layout.fault.FaultKind.TheVariants.{Spare}
use Rattle.etcs_bits.specs.declared.variables.identity.Identity.{Identity}
use Rattle.etcs_bits.specs.declared.variables.level.Level.{Level}
use Rattle.etcs_bits.specs.declared.variables.scale.Scale.{Scale}
use Rattle.etcs_bits.specs.layout.Rows.{Variable}
use Rattle.etcs_bits.specs.layout.Choice.{Choice}
use Rattle.etcs_bits.specs.layout.Format.{Format, number, ◌then◌, behind_length, last, either, chosen, named}
use Rattle.etcs_bits.specs.variables.Level.{m_level}
use Rattle.etcs_bits.specs.variables.VariableFormats.{q_scale}
use Rattle.etcs_radio.specs.declared.integrity.Integrity.{Integrity}
use Rattle.etcs_radio.specs.declared.report.Report.{Report}
use Rattle.etcs_bits.specs.declared.variables.train3.Train3.{Train3}
use Rattle.etcs_radio.specs.Integrity.{q_length}
use Rattle.etcs_radio.specs.Lrbg.{nid_lrbg, nid_prvlrbg}
use Rattle.etcs_bits.specs.variables.Train3.{q_dirlrbg, q_dlrbg, q_dirtrain}

-- D_LRBG, 15 bits: from the group to the train's estimated front
abbrev pub d_lrbg : Format ℕ
d_lrbg = number 15

-- L_DOUBTOVER, 15 bits: how far the estimate of the front may lie ahead of it
abbrev pub l_doubtover : Format ℕ
l_doubtover = number 15

-- L_DOUBTUNDER, 15 bits: how far the estimate of the front may lie behind it
abbrev pub l_doubtunder : Format ℕ
l_doubtunder = number 15

-- V_TRAIN, 7 bits: the train's speed, in steps of 5 km/h
abbrev pub v_train : Format ℕ
v_train = number 7

-- M_MODE, 4 bits: the mode of the equipment on board
abbrev pub m_mode : Format ℕ
m_mode = number 4

-- what follows the groups
abbrev pub Situation : Type 0
Situation =
    ℕ × (Train3 × (Train3 × (ℕ × (ℕ × (Integrity × (ℕ × (Train3 × (ℕ × Level))))))))

abbrev pub situation : Format Situation
situation =
    d_lrbg
    then q_dirlrbg
    then q_dlrbg
    then l_doubtover
    then l_doubtunder
    then q_length
    then v_train
    then q_dirtrain
    then m_mode
    then m_level

-- what follows NID_PACKET in packet 0: L_PACKET, Q_SCALE, NID_LRBG, the situation
abbrev pub WithOne : Type 0
WithOne = Scale × (Identity × Situation)

abbrev pub with_one : Format WithOne
with_one = behind_length 8 (q_scale then nid_lrbg then situation)

-- what follows NID_PACKET in packet 1: L_PACKET, Q_SCALE, NID_LRBG, NID_PRVLRBG, the situation
abbrev pub WithTwo : Type 0
WithTwo = Scale × (Identity × (Identity × Situation))

abbrev pub with_two : Format WithTwo
with_two = behind_length 8 (q_scale then nid_lrbg then nid_prvlrbg then situation)

-- NID_PACKET, 8 bits: 0 or 1, and what follows each; any other number is spare
abbrev pub report_numbered : Choice (WithOne ⊎ WithTwo)
report_numbered = either 0 with_one (last 1 with_two) refl

abbrev pub report_variable : Variable
report_variable = record { width = 8; allows = report_numbered.allows; refusal = Spare; closes = false }

-- ---- the parts of a position report

abbrev pub report_situation : Report → Situation
report_situation r = (
  r.distance,
  (
    r.orientation,
    (
      r.side,
      (
        r.doubt_over,
        (r.doubt_under, (r.length, (r.speed, (r.running, (r.mode, r.level))))),
      ),
    ),
  ),
)

abbrev pub parts_by_previous : Option Identity → Report → WithOne ⊎ WithTwo
parts_by_previous None r = inl (r.scale, (r.lrbg, report_situation r))
parts_by_previous (Some previous) r = inr (r.scale, (r.lrbg, (previous, report_situation r)))

-- packet 1 if the position report has the group before
abbrev pub report_parts : Report → WithOne ⊎ WithTwo
report_parts r = parts_by_previous r.previous r

-- ---- a position report of its parts
-- Pinned by the law a_record_is_read_as_it_is_spelled.

abbrev pub report_value : Option Identity → Scale → Identity → Situation → Report
report_value previous scale lrbg s = record {
  scale = scale;
  lrbg = lrbg;
  previous = previous;
  distance = s.0;
  orientation = s.1.0;
  side = s.1.1.0;
  doubt_over = s.1.1.1.0;
  doubt_under = s.1.1.1.1.0;
  length = s.1.1.1.1.1.0;
  speed = s.1.1.1.1.1.1.0;
  running = s.1.1.1.1.1.1.1.0;
  mode = s.1.1.1.1.1.1.1.1.0;
  level = s.1.1.1.1.1.1.1.1.1;
}

abbrev pub make_report : WithOne ⊎ WithTwo → Report
make_report (inl p) = report_value None p.0 p.1.0 p.1.1
make_report (inr p) = report_value (Some p.1.1.0) p.0 p.1.0 p.1.1.1

pub back : (p : WithOne ⊎ WithTwo) → report_parts (make_report p) ≡ p
back (inl p) = refl
back (inr p) = refl

pub again_by : (previous : Option Identity) (r : Report)
    → make_report (parts_by_previous previous r) ≡ report_value previous r.scale r.lrbg (report_situation r)
again_by None r = refl
again_by (Some previous) r = refl

pub again : (r : Report) → make_report (report_parts r) ≡ r
again r = again_by r.previous r

-- ---- the record

-- a position report
abbrev pub report : Format Report
report = named (chosen report_variable report_numbered (λ _. refl)) make_report report_parts back again

-- NID_PACKET: 1 if the position report has the group before, else 0
abbrev pub report_number : Report → ℕ
report_number r = report_numbered.number (report_parts r)
