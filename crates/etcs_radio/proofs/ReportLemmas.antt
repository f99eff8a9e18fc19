-- Position reports: how long they are, and how they are written.
use Rattle.std.proofs.Common.{◌≡◌, ℕ, ◌+◌, ◌≤◌, List, Bool, ◌++◌, Option, Some, None, Result, sym, ap, subst, ◌∙◌, ◌⊎◌, inl, inr, arith}
use Rattle.etcs_bits.specs.declared.variables.identity.Identity.{Identity}
use Rattle.etcs_bits.specs.declared.variables.level.Level.{Level}
use Rattle.etcs_bits.specs.declared.variables.level.Level.TheVariants as levels
use Rattle.etcs_bits.specs.bits.Number.{num}
use Rattle.etcs_bits.specs.layout.Rows.{alone, join, width}
use Rattle.etcs_bits.specs.layout.Results.{Puts}
use Rattle.etcs_bits.specs.layout.Format.{◌then◌}
use Rattle.etcs_bits.specs.variables.Level.{m_level}
use Rattle.etcs_bits.specs.variables.VariableFormats.{q_scale}
use Rattle.etcs_bits.proofs.PutLemmas.{puts_bits}
use Rattle.etcs_bits.proofs.WidthLemmas.{width_both}
use Rattle.etcs_radio.specs.declared.integrity.Integrity.{Integrity}
use Rattle.etcs_radio.specs.declared.integrity.Integrity.TheVariants as lengths
use Rattle.etcs_radio.specs.declared.report.Report.{Report}
use Rattle.etcs_bits.specs.declared.variables.train3.Train3.{Train3}
use Rattle.etcs_radio.specs.Integrity.{q_length}
use Rattle.etcs_radio.specs.Lrbg.{nid_lrbg, nid_prvlrbg}
use Rattle.etcs_bits.specs.variables.Train3.{q_dirtrain}
use Rattle.etcs_radio.specs.Report.{v_train, m_mode, Situation, situation, WithOne, WithTwo, with_one, with_two, report_numbered, parts_by_previous, report_parts, report_variable, report, report_situation}

integrity_width : (v : Integrity) → width (q_length.rows v) ≤ 17
unfolding alone
integrity_width lengths.Q0 = omega arith
integrity_width (lengths.Q1 l) = omega arith
integrity_width (lengths.Q2 l) = omega arith
integrity_width lengths.Q3 = omega arith

level_width : (v : Level) → width (m_level.rows v) ≤ 11
unfolding alone
level_width levels.L0 = omega arith
level_width (levels.Ntc n) = omega arith
level_width levels.L1 = omega arith
level_width levels.L2 = omega arith
level_width levels.L3 = omega arith

-- the fields from Q_LENGTH on
end_width : (v : Integrity) (speed : ℕ) (running : Train3) (mode : ℕ) (l : Level)
    → width (q_length.rows v ++ (v_train.rows speed ++ (q_dirtrain.rows running ++ (m_mode.rows mode ++ m_level.rows l)))) ≤ 41
unfolding alone
end_width v speed running mode l =
    let rest = v_train.rows speed ++ (q_dirtrain.rows running ++ (m_mode.rows mode ++ m_level.rows l)) in
    let both = width_both (q_length.rows v) rest in
    let few : width rest ≤ 24 = omega (arith, level_width l) in
    omega (arith, both, few, integrity_width v)

situation_width : (s : Situation) → width (situation.rows s) ≤ 90
unfolding alone
situation_width (distance, (orientation, (side, (over, (under, (v, (speed, (running, (mode, l))))))))) =
    let few = end_width v speed running mode l in
    omega (arith, few)

pub one_width : (p : WithOne) → 8 + (13 + width ((q_scale then nid_lrbg then situation).rows p)) ≤ 8191
unfolding alone
one_width (scale, (lrbg, s)) = let few = situation_width s in omega (arith, few)

pub two_width : (p : WithTwo) → 8 + (13 + width ((q_scale then nid_lrbg then nid_prvlrbg then situation).rows p)) ≤ 8191
unfolding alone
two_width (scale, (lrbg, (previous, s))) = let few = situation_width s in omega (arith, few)

-- ---- writing

-- a report's rows, by what its number decides
put_numbered : {X E : Type 0} (r : Report) (s : WithOne ⊎ WithTwo) (result : Result X E) (old new : List Bool)
    → report_parts r ≡ s
    → Puts (join (alone report_variable (report_numbered.number s) ++ report_numbered.rows s)) result old new
    → Puts (join (report.rows r)) result old new
put_numbered r s result old new is puts =
    subst (λ (t : WithOne ⊎ WithTwo). Puts (join (alone report_variable (report_numbered.number t) ++ report_numbered.rows t)) result old new) (sym is) puts

pub put_one : {X E : Type 0} (r : Report) (p : WithOne) (result : Result X E) (old mid new : List Bool)
    → r.previous ≡ None → p ≡ (r.scale, (r.lrbg, report_situation r)) → mid ≡ old ++ num 8 0
    → Puts (join (with_one.rows p)) result mid new → Puts (join (report.rows r)) result old new
unfolding alone
put_one r p result old mid new none is number puts =
    put_numbered r (inl p) result old new (ap (λ (o : Option Identity). parts_by_previous o r) none ∙ ap inl (sym is))
    (puts_bits (num 8 0) (join (with_one.rows p)) result old mid new number puts)

pub put_two : {X E : Type 0} (r : Report) (previous : Identity) (p : WithTwo) (result : Result X E)
    (old mid new : List Bool) → r.previous ≡ Some previous
    → p ≡ (r.scale, (r.lrbg, (previous, report_situation r))) → mid ≡ old ++ num 8 1
    → Puts (join (with_two.rows p)) result mid new → Puts (join (report.rows r)) result old new
unfolding alone
put_two r previous p result old mid new some is number puts =
    put_numbered r (inr p) result old new (ap (λ (o : Option Identity). parts_by_previous o r) some ∙ ap inr (sym is))
    (puts_bits (num 8 1) (join (with_two.rows p)) result old mid new number puts)
