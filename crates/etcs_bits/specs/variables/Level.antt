-- The level of M_LEVELTR and M_LEVEL: three bits, and after level NTC the national system that
-- supervises the train (SUBSET-026, 7.5.1).
use Rattle.std.specs.Prelude.{◌≡◌, ℕ, ◌⊎◌, false, refl}
use Rattle.std.proofs.Common.{inl, inr}
use Rattle.etcs_bits.specs.declared.layout.fault.FaultKind.TheVariants.{Spare}
use Rattle.etcs_bits.specs.declared.variables.level.Level.{Level}
use Rattle.etcs_bits.specs.declared.variables.level.Level.TheVariants as levels
use Rattle.etcs_bits.specs.layout.Rows.{Variable}
use Rattle.etcs_bits.specs.layout.Choice.{Choice}
use Rattle.etcs_bits.specs.layout.Format.{Format, number, empty, last, either, chosen, named}

-- NID_NTC, 8 bits: the national system of level NTC
abbrev pub nid_ntc : Format ℕ
nid_ntc = number 8

-- what follows each number: NID_NTC only at level NTC
abbrev pub NumberedLevel : Type 0
NumberedLevel = Unit {0} ⊎ (ℕ ⊎ (Unit {0} ⊎ (Unit {0} ⊎ Unit {0})))

abbrev pub level_numbered : Choice NumberedLevel
level_numbered =
    either 0 empty (
    either 1 nid_ntc (
    either 2 empty (
    either 3 empty (
    last 4 empty) refl) refl) refl) refl

-- M_LEVELTR and M_LEVEL, 3 bits: the numbers of a level; 5 to 7 are spare
abbrev pub level_variable : Variable
level_variable = record { width = 3; allows = level_numbered.allows; refusal = Spare; closes = false }

-- ---- the number of a level, with what follows it

abbrev pub level_parts : Level → NumberedLevel
level_parts levels.L0 = inl tt
level_parts (levels.Ntc ntc) = inr (inl ntc)
level_parts levels.L1 = inr (inr (inl tt))
level_parts levels.L2 = inr (inr (inr (inl tt)))
level_parts levels.L3 = inr (inr (inr (inr tt)))

-- ---- a level, of its number with what follows
-- Pinned by the law a_record_is_read_as_it_is_spelled.

abbrev pub make_level : NumberedLevel → Level
make_level (inl _) = levels.L0
make_level (inr (inl ntc)) = levels.Ntc ntc
make_level (inr (inr (inl _))) = levels.L1
make_level (inr (inr (inr (inl _)))) = levels.L2
make_level (inr (inr (inr (inr _)))) = levels.L3

pub back : (n : NumberedLevel) → level_parts (make_level n) ≡ n
back (inl _) = refl
back (inr (inl ntc)) = refl
back (inr (inr (inl _))) = refl
back (inr (inr (inr (inl _)))) = refl
back (inr (inr (inr (inr _)))) = refl

pub again : (v : Level) → make_level (level_parts v) ≡ v
again levels.L0 = refl
again (levels.Ntc ntc) = refl
again levels.L1 = refl
again levels.L2 = refl
again levels.L3 = refl

-- ---- the record

-- M_LEVELTR and M_LEVEL, with NID_NTC
abbrev pub m_level : Format Level
m_level = named (chosen level_variable level_numbered (λ _. refl)) make_level level_parts back again

-- the number of a level
abbrev pub level_number : Level → ℕ
level_number v = level_numbered.number (level_parts v)
