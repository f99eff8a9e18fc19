-- The integrity and the length of a train (SUBSET-026, 7.5.1): Q_LENGTH, and L_TRAININT after two of its
-- numbers.
use Rattle.std.specs.Prelude.{◌≡◌, ℕ, ◌⊎◌, false, refl}
use Rattle.std.proofs.Common.{inl, inr}
use Rattle.etcs_bits.specs.declared.layout.fault.FaultKind.TheVariants.{Spare}
use Rattle.etcs_bits.specs.layout.Rows.{Variable}
use Rattle.etcs_bits.specs.layout.Choice.{Choice}
use Rattle.etcs_bits.specs.layout.Format.{Format, number, empty, last, either, chosen, named}
use Rattle.etcs_radio.specs.declared.integrity.Integrity.{Integrity}
use Rattle.etcs_radio.specs.declared.integrity.Integrity.TheVariants as lengths

-- L_TRAININT, 15 bits: the length of the train
abbrev pub l_trainint : Format ℕ
l_trainint = number 15

-- what follows each number: L_TRAININT after 1 and 2
abbrev pub NumberedLength : Type 0
NumberedLength = Unit {0} ⊎ (ℕ ⊎ (ℕ ⊎ Unit {0}))

abbrev pub length_numbered : Choice NumberedLength
length_numbered = either 0 empty (either 1 l_trainint (either 2 l_trainint (last 3 empty) refl) refl) refl

-- Q_LENGTH, 2 bits: no number is spare
abbrev pub length_variable : Variable
length_variable = record { width = 2; allows = length_numbered.allows; refusal = Spare; closes = false }

-- ---- the number of a value, with what follows it

abbrev pub integrity_parts : Integrity → NumberedLength
integrity_parts lengths.Q0 = inl tt
integrity_parts (lengths.Q1 l) = inr (inl l)
integrity_parts (lengths.Q2 l) = inr (inr (inl l))
integrity_parts lengths.Q3 = inr (inr (inr tt))

-- ---- the value of a number with what follows it
-- Pinned by the law a_record_is_read_as_it_is_spelled.

abbrev pub make_integrity : NumberedLength → Integrity
make_integrity (inl _) = lengths.Q0
make_integrity (inr (inl l)) = lengths.Q1 l
make_integrity (inr (inr (inl l))) = lengths.Q2 l
make_integrity (inr (inr (inr _))) = lengths.Q3

pub back : (n : NumberedLength) → integrity_parts (make_integrity n) ≡ n
back (inl _) = refl
back (inr (inl l)) = refl
back (inr (inr (inl l))) = refl
back (inr (inr (inr _))) = refl

pub again : (v : Integrity) → make_integrity (integrity_parts v) ≡ v
again lengths.Q0 = refl
again (lengths.Q1 l) = refl
again (lengths.Q2 l) = refl
again lengths.Q3 = refl

-- ---- the record

-- Q_LENGTH, with L_TRAININT
abbrev pub q_length : Format Integrity
q_length =
    named (chosen length_variable length_numbered (λ _. refl)) make_integrity integrity_parts back again

-- Q_LENGTH
abbrev pub length_number : Integrity → ℕ
length_number v = length_numbered.number (integrity_parts v)
