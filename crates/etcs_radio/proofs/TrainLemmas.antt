-- A train packet's rows by itself and in a list have the same bits.
use Rattle.std.proofs.Common.{◌≡◌, ◌⊎◌, ℕ, Bool, true, false, List, ◌∷◌, ◌++◌, Result, Ok, length, refl, sym, ap, ◌∙◌, inl, inr, arith}
use Rattle.std.proofs.lemmas.Bool.{ne_eqb}
use Rattle.std.specs.Prelude.{◌==◌, ◌||◌, not}
use Rattle.etcs_bits.specs.declared.layout.fault.Fault.{Fault}
use Rattle.etcs_bits.specs.layout.Rows.{Row, row, alone, Place, AreAllowed, join, width}
use Rattle.etcs_bits.specs.layout.Choice.{numbered_rows}
use Rattle.etcs_bits.specs.layout.Reading.{read_field}
use Rattle.etcs_bits.proofs.ReadingLemmas.{field_again, field_ok}
use Rattle.etcs_radio.specs.declared.report.Report.{Report}
use Rattle.etcs_radio.specs.declared.train_packet.TrainPacket.{TrainPacket}
use Rattle.etcs_radio.specs.declared.train_packet.TrainPacket.TheVariants as packets
use Rattle.etcs_radio.specs.Report.{WithOne, WithTwo, report_numbered, report_parts, report_variable}
use Rattle.etcs_bits.specs.layout.Format.{kept_bits}
use Rattle.etcs_radio.specs.RawTrain.{other_of}
use Rattle.etcs_radio.specs.TrainNumbers.{nid_raw}
use Rattle.etcs_profile.specs.PacketNumbers.{nid_track as nid_train}
use Rattle.etcs_radio.specs.TrainPacket.{train_numbered, numbered_report, train_packet, own_rows}

-- the rows of a report with its number, as one of a list and by itself
abbrev listed : WithOne ⊎ WithTwo → List Row
listed s = alone nid_train (train_numbered.number (numbered_report s)) ++ train_numbered.rows (numbered_report s)

abbrev own : WithOne ⊎ WithTwo → List Row
own s = alone report_variable (report_numbered.number s) ++ report_numbered.rows s

report_join : (s : WithOne ⊎ WithTwo) → join (listed s) ≡ join (own s)
unfolding alone
report_join (inl p) = refl
report_join (inr p) = refl

report_width : (s : WithOne ⊎ WithTwo) → width (listed s) ≡ width (own s)
unfolding alone
report_width (inl p) = refl
report_width (inr p) = refl

report_allowed : (s : WithOne ⊎ WithTwo) → AreAllowed (own s) → AreAllowed (listed s)
unfolding alone
report_allowed (inl p) allowed = allowed
report_allowed (inr p) allowed = allowed

pub train_join : (p : TrainPacket) → join (train_packet.rows p) ≡ join (own_rows p)
unfolding alone
train_join (packets.Report r) = report_join (report_parts r)
train_join (packets.Raw p) = refl

pub train_width : (p : TrainPacket) → width (train_packet.rows p) ≡ width (own_rows p)
unfolding alone
train_width (packets.Report r) = report_width (report_parts r)
train_width (packets.Raw p) = refl

not_mark : (known mark : Bool) → not (known || mark) ≡ true → not mark ≡ true
not_mark true mark h = absurd cc
not_mark false mark h = h

pub train_allowed : (p : TrainPacket) → AreAllowed (own_rows p) → AreAllowed (train_packet.rows p)
unfolding alone
train_allowed (packets.Report r) allowed = report_allowed (report_parts r) allowed
train_allowed (packets.Raw p) allowed =
    ((allowed.0.0, not_mark (report_numbered.allows p.number) (p.number == 255) (other_of p.number (length p.body) p.kept)), allowed.1)

-- ---- reading

abbrev Not : ℕ → ℕ → Type 0
Not n k = n ≡ k → ⊥

-- what follows a number that is no report's
pub other_next : (n : ℕ) → Not n 0 → Not n 1 → train_numbered.next n ≡ (kept_bits 8).fields
other_next n a b = rw (ne_eqb n 0 a, ne_eqb n 1 b) refl

-- a number that is no report's, by itself
pub raw_number : (n : ℕ) (p q : Place) → Not n 0 → Not n 1 → not (n == 255) ≡ true → read_field nid_train p ≡ Ok (n, q)
    → read_field nid_raw p ≡ Ok (n, q)
raw_number n p q a b end read =
    let took = (field_ok nid_train p (n, q) read).took in
    field_again nid_raw n p q took.small (rw (ne_eqb n 0 a, ne_eqb n 1 b) end) (omega (arith, took.within, took.stands.past)) took.stands

-- what follows the number of a report
pub report_next : (n : ℕ) → (n ≡ 0) ⊎ ((n ≡ 0 → ⊥) × (n ≡ 1)) → train_numbered.next n ≡ report_numbered.next n
report_next n (inl is) = rw is refl
report_next n (inr other) = rw other.1 refl

in_rows : (s : WithOne ⊎ WithTwo) → numbered_rows train_numbered (numbered_report s) ≡ numbered_rows report_numbered s
in_rows (inl p) = refl
in_rows (inr p) = refl

-- a report that was read
pub report_here : (r : Report) {read : Result (List Row × Place) Fault} {to : Place}
    → read ≡ Ok (row nid_train (report_numbered.number (report_parts r)) ∷ report_numbered.rows (report_parts r), to)
    → read ≡ Ok (train_packet.rows (packets.Report r), to)
unfolding alone
report_here r {to = to} read =
    read ∙ ap (λ (z : ℕ × List Row). Ok (row nid_train z.0 ∷ z.1, to)) (sym (in_rows (report_parts r)))
