-- The value of a number, for the variables whose numbers have names. A number is allowed exactly if
-- its value has that number. The value of any other number means nothing.
use Rattle.std.specs.Prelude.{ℕ, Bool, ◌==◌, if◌then◌else◌}
use Rattle.etcs_bits.specs.declared.variables.transmission.Transmission.{Transmission}
use Rattle.etcs_bits.specs.declared.variables.transmission.Transmission.TheVariants as transmissions
use Rattle.etcs_bits.specs.declared.variables.medium.Medium.{Medium}
use Rattle.etcs_bits.specs.declared.variables.medium.Medium.TheVariants as media
use Rattle.etcs_bits.specs.declared.variables.version.Version.{Version}
use Rattle.etcs_bits.specs.declared.variables.version.Version.TheVariants as versions
use Rattle.etcs_bits.specs.declared.variables.scale.Scale.{Scale}
use Rattle.etcs_bits.specs.declared.variables.scale.Scale.TheVariants as scales
use Rattle.etcs_bits.specs.declared.variables.direction.Dir.{Dir}
use Rattle.etcs_bits.specs.declared.variables.direction.Dir.TheVariants as dirs
use Rattle.etcs_bits.specs.declared.variables.duplicate.Dup.{Dup}
use Rattle.etcs_bits.specs.declared.variables.duplicate.Dup.TheVariants as dups

-- ---- a flag: 1 is true
-- Pinned by the law flags_have_their_numbers.

abbrev pub flag_value : ℕ → Bool
flag_value n = n == 1

-- ---- Q_UPDOWN
-- Pinned by the law transmissions_have_their_numbers.

abbrev pub transmission_value : ℕ → Transmission
transmission_value n = transmissions.TrackToTrain

-- ---- Q_MEDIA
-- Pinned by the law media_have_their_numbers.

abbrev pub medium_value : ℕ → Medium
medium_value n = media.Balise

-- ---- M_VERSION
-- Pinned by the law versions_have_their_numbers.

abbrev pub version_value : ℕ → Version
version_value n = if n == 32 then versions.V2_0 else versions.V2_1

-- ---- M_DUP
-- Pinned by the law marks_have_their_numbers.

abbrev pub dup_value : ℕ → Dup
dup_value n = if n == 0 then dups.Single else (if n == 1 then dups.Next else dups.Previous)

-- ---- Q_SCALE
-- Pinned by the law scales_have_their_numbers.

abbrev pub scale_value : ℕ → Scale
scale_value n = if n == 0 then scales.TenCentimetres else (if n == 1 then scales.Metre else scales.TenMetres)

-- ---- Q_DIR
-- Pinned by the law directions_have_their_numbers.

abbrev pub dir_value : ℕ → Dir
dir_value n = if n == 0 then dirs.Reverse else (if n == 1 then dirs.Nominal else dirs.Both)
