-- The variables whose numbers have names, or are not all allowed (SUBSET-026, 7.5.1). A number that no line
-- gives is spare; a person compares each definition with the table of its variable.
use Rattle.std.specs.Prelude.{ℕ, ◌==◌, ◌||◌, nat_le, List, [], ◌∷◌}
use Rattle.etcs_bits.specs.declared.variables.version.Version.{Version}
use Rattle.etcs_bits.specs.declared.variables.version.Version.TheVariants as versions
use Rattle.etcs_bits.specs.declared.variables.scale.Scale.{Scale}
use Rattle.etcs_bits.specs.declared.variables.scale.Scale.TheVariants as scales
use Rattle.etcs_bits.specs.declared.variables.direction.Dir.{Dir}
use Rattle.etcs_bits.specs.declared.variables.direction.Dir.TheVariants as dirs
use Rattle.etcs_bits.specs.declared.variables.duplicate.Dup.{Dup}
use Rattle.etcs_bits.specs.declared.variables.duplicate.Dup.TheVariants as dups
use Rattle.etcs_bits.specs.declared.variables.level.Level.{Level}
use Rattle.etcs_bits.specs.declared.variables.level.Level.TheVariants as levels
use Rattle.etcs_bits.specs.declared.variables.identity.Identity.{Identity}
use Rattle.etcs_bits.specs.declared.variables.train3.Train3.{Train3}
use Rattle.etcs_bits.specs.declared.variables.train3.Train3.TheVariants as relations
use Rattle.etcs_edition.specs.Wire.{Field, any_number, allowed_if}

-- M_VERSION, 7 bits: the system version
abbrev pub version_field : Version → Field
version_field versions.V2_0 = any_number 7 32
version_field versions.V2_1 = any_number 7 33

-- M_DUP, 2 bits: which neighbour the balise is a duplicate of
abbrev pub dup_field : Dup → Field
dup_field dups.Single = any_number 2 0
dup_field dups.Next = any_number 2 1
dup_field dups.Previous = any_number 2 2

-- Q_SCALE, 2 bits: the unit of distances
abbrev pub scale_field : Scale → Field
scale_field scales.TenCentimetres = any_number 2 0
scale_field scales.Metre = any_number 2 1
scale_field scales.TenMetres = any_number 2 2

-- Q_DIR, 2 bits: the validity direction
abbrev pub dir_field : Dir → Field
dir_field dirs.Reverse = any_number 2 0
dir_field dirs.Nominal = any_number 2 1
dir_field dirs.Both = any_number 2 2

-- Q_DIRLRBG, Q_DLRBG and Q_DIRTRAIN, 2 bits each: a direction or a side, as seen from the group of NID_LRBG
abbrev pub train3_field : Train3 → Field
train3_field relations.Reverse = any_number 2 0
train3_field relations.Nominal = any_number 2 1
train3_field relations.Unknown = any_number 2 2

-- M_LEVELTR or M_LEVEL, 3 bits; for level NTC also NID_NTC, 8 bits
abbrev pub level_fields : Level → List Field
level_fields levels.L0 = any_number 3 0 ∷ []
level_fields (levels.Ntc ntc) = any_number 3 1 ∷ any_number 8 ntc ∷ []
level_fields levels.L1 = any_number 3 2 ∷ []
level_fields levels.L2 = any_number 3 3 ∷ []
level_fields levels.L3 = any_number 3 4 ∷ []

-- NID_C, 10 bits, and NID_BG, 14 bits: the identity of a balise group; both are one variable of 24 bits where
-- the standard names it NID_LRBG or NID_PRVLRBG
abbrev pub identity_fields : Identity → List Field
identity_fields i = any_number 10 i.country ∷ any_number 14 i.group ∷ []

-- V_RELEASEDP and V_RELEASEOL, 7 bits each, in steps of 5 km/h: 126 is calculated on board, 127 is the
-- national value
abbrev pub release_speed_field : ℕ → Field
release_speed_field v = allowed_if 7 v (nat_le v 120 || nat_le 126 v)

-- V_STATIC, 7 bits, in steps of 5 km/h: 127 is the end mark
abbrev pub static_speed_field : ℕ → Field
static_speed_field v = allowed_if 7 v (nat_le v 120 || (v == 127))
