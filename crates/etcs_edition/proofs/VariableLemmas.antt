-- The variables agree.
use Rattle.std.proofs.Common.{◌≡◌, ℕ, ◌+◌, ◌<◌, ◌==◌, Bool, [], ◌∷◌, refl, arith}
use Rattle.std.specs.Prelude.{◌||◌, nat_le}
use Rattle.etcs_bits.specs.declared.variables.version.Version.{Version}
use Rattle.etcs_bits.specs.declared.variables.version.Version.TheVariants as versions
use Rattle.etcs_bits.specs.declared.variables.scale.Scale.{Scale}
use Rattle.etcs_bits.specs.declared.variables.scale.Scale.TheVariants as scales
use Rattle.etcs_bits.specs.declared.variables.direction.Dir.{Dir}
use Rattle.etcs_bits.specs.declared.variables.direction.Dir.TheVariants as dirs
use Rattle.etcs_bits.specs.declared.variables.duplicate.Dup.{Dup}
use Rattle.etcs_bits.specs.declared.variables.duplicate.Dup.TheVariants as dups
use Rattle.etcs_bits.specs.declared.variables.level.Level.{Level}
use Rattle.etcs_bits.specs.declared.variables.level.Level.TheVariants as levels
use Rattle.etcs_bits.specs.declared.variables.identity.Identity.{Identity}
use Rattle.etcs_bits.specs.layout.Rows.{alone}
use Rattle.etcs_bits.specs.variables.Variables.{plain, ranged, version_variable, version_number, duplicate_variable, dup_number, scale_variable, scale_number, dir_variable, dir_number}
use Rattle.etcs_bits.specs.variables.Level.{level_variable, m_level}
use Rattle.etcs_bits.specs.variables.Identity.{identity}
use Rattle.etcs_edition.specs.Wire.{up_to}
use Rattle.etcs_edition.specs.Variables.{version_field, dup_field, scale_field, dir_field, level_fields, identity_fields, release_speed_field, static_speed_field}
use Rattle.etcs_edition.proofs.AgreeLemmas.{Agree, agree_nothing, agree_one, agree_any, agree_last}

pub agree_version : (v : Version) → Agree (alone version_variable (version_number v)) (version_field v ∷ [])
agree_version versions.V2_0 = agree_last version_variable 32 refl
agree_version versions.V2_1 = agree_last version_variable 33 refl

pub agree_dup : (v : Dup) → Agree (alone duplicate_variable (dup_number v)) (dup_field v ∷ [])
agree_dup dups.Single = agree_last duplicate_variable 0 refl
agree_dup dups.Next = agree_last duplicate_variable 1 refl
agree_dup dups.Previous = agree_last duplicate_variable 2 refl

pub agree_scale : (v : Scale) → Agree (alone scale_variable (scale_number v)) (scale_field v ∷ [])
agree_scale scales.TenCentimetres = agree_last scale_variable 0 refl
agree_scale scales.Metre = agree_last scale_variable 1 refl
agree_scale scales.TenMetres = agree_last scale_variable 2 refl

pub agree_dir : (v : Dir) → Agree (alone dir_variable (dir_number v)) (dir_field v ∷ [])
agree_dir dirs.Reverse = agree_last dir_variable 0 refl
agree_dir dirs.Nominal = agree_last dir_variable 1 refl
agree_dir dirs.Both = agree_last dir_variable 2 refl

pub agree_level : (v : Level) → Agree (m_level.rows v) (level_fields v)
agree_level levels.L0 = agree_any level_variable 0 refl agree_nothing
agree_level (levels.Ntc ntc) = agree_any level_variable 1 refl (agree_last (plain 8) ntc refl)
agree_level levels.L1 = agree_any level_variable 2 refl agree_nothing
agree_level levels.L2 = agree_any level_variable 3 refl agree_nothing
agree_level levels.L3 = agree_any level_variable 4 refl agree_nothing

pub agree_identity : (i : Identity) → Agree (identity.rows i) (identity_fields i)
agree_identity i = agree_any (plain 10) i.country refl (agree_last (plain 14) i.group refl)

-- ---- ranges: a number that does not fit is out of range either way

pub none_above : (b : Bool) (n k : ℕ) → n < k → (b || nat_le k n) ≡ b
none_above b n k lt = grind arith

pub only_last : (b : Bool) (n k : ℕ) → n < k + 1 → (b || nat_le k n) ≡ (b || (n == k))
only_last b n k lt = grind arith

pub agree_speed : (v : ℕ) → Agree (alone (ranged 7 120 128) v) (up_to 7 120 v ∷ [])
agree_speed v = agree_one (ranged 7 120 128) v (nat_le v 120) (none_above (nat_le v 120) v 128)

pub agree_release_speed : (v : ℕ) → Agree (alone (ranged 7 120 126) v) (release_speed_field v ∷ [])
agree_release_speed v = agree_one (ranged 7 120 126) v (nat_le v 120 || nat_le 126 v) (λ _. refl)

pub agree_static_speed : (v : ℕ) → Agree (alone (ranged 7 120 127) v) (static_speed_field v ∷ [])
agree_static_speed v = agree_one (ranged 7 120 127) v (nat_le v 120 || (v == 127)) (only_last (nat_le v 120) v 127)

pub agree_zero_to_two : (n : ℕ) → Agree (alone (ranged 2 2 4) n) (up_to 2 2 n ∷ [])
agree_zero_to_two n = agree_one (ranged 2 2 4) n (nat_le n 2) (none_above (nat_le n 2) n 4)
