-- The variables of telegrams and packets, by the standard's table (SUBSET-026, 7.5.1): the width of
-- each, its numbers, and which of them are spare. By this project's rule, only one number of
-- Q_UPDOWN and of Q_MEDIA is read, and only two of M_VERSION.
use Rattle.std.specs.Prelude.{ℕ, ◌==◌, ◌||◌, ◌&&◌, nat_le, true, false}
use Rattle.etcs_bits.specs.declared.layout.fault.FaultKind.{FaultKind}
use Rattle.etcs_bits.specs.declared.layout.fault.FaultKind.TheVariants.{Spare, Version as WrongVersion, Loop, Downlink}
use Rattle.etcs_bits.specs.declared.variables.transmission.Transmission.{Transmission}
use Rattle.etcs_bits.specs.declared.variables.transmission.Transmission.TheVariants as transmissions
use Rattle.etcs_bits.specs.declared.variables.medium.Medium.{Medium}
use Rattle.etcs_bits.specs.declared.variables.medium.Medium.TheVariants as media
use Rattle.etcs_bits.specs.declared.variables.version.Version.{Version}
use Rattle.etcs_bits.specs.declared.variables.version.Version.TheVariants as versions
use Rattle.etcs_bits.specs.declared.variables.scale.Scale.{Scale}
use Rattle.etcs_bits.specs.declared.variables.scale.Scale.TheVariants as scales
use Rattle.etcs_bits.specs.declared.variables.direction.Dir.{Dir}
use Rattle.etcs_bits.specs.declared.variables.direction.Dir.TheVariants as dirs
use Rattle.etcs_bits.specs.declared.variables.duplicate.Dup.{Dup}
use Rattle.etcs_bits.specs.declared.variables.duplicate.Dup.TheVariants as dups
use Rattle.etcs_bits.specs.layout.Rows.{Variable}
use Rattle.etcs_bits.specs.variables.VariableValues.{transmission_value, medium_value, version_value, dup_value, scale_value, dir_value}

-- a variable of w bits without a spare number, for w from 1 to 32; no number of any other w is
-- allowed
abbrev pub plain : ℕ → Variable
plain w = record {
  width = w;
  allows = λ _. nat_le 1 w && nat_le w 32;
  refusal = Spare;
  closes = false;
}

-- w bits of any width that are kept as they are, such as the body of a packet that is not looked into
abbrev pub free : ℕ → Variable
free w = record { width = w; allows = λ _. true; refusal = Spare; closes = false }

-- a variable of w bits of which only the number k is read; any other has the fault `why`
abbrev pub only : ℕ → ℕ → FaultKind → Variable
only w k why = record { width = w; allows = λ n. n == k; refusal = why; closes = false }

-- a variable of w bits, 1 to 32, whose numbers are 0 to `last`, and `from` and above
abbrev pub ranged : ℕ → ℕ → ℕ → Variable
ranged w last from = record {
  width = w;
  allows = λ n. (nat_le 1 w && nat_le w 32) && (nat_le n last || nat_le from n);
  refusal = Spare;
  closes = false;
}

-- A variable of w bits whose numbers have names: the number of each value, and the value of a
-- number. Only the numbers of values are allowed; any other has the fault `why`.
abbrev pub naming : {X : Type 0} → ℕ → (X → ℕ) → (ℕ → X) → FaultKind → Variable
naming w number of why = record {
  width = w;
  allows = λ n. n == number (of n);
  refusal = why;
  closes = false;
}

-- Q_UPDOWN, 1 bit: 1 is track to train; 0, train to track, is not read
abbrev pub transmission_number : Transmission → ℕ
transmission_number transmissions.TrackToTrain = 1

abbrev pub transmission_variable : Variable
transmission_variable = naming 1 transmission_number transmission_value Downlink

-- Q_MEDIA, 1 bit: 0 is a balise; 1, a loop, is not read
abbrev pub medium_number : Medium → ℕ
medium_number media.Balise = 0

abbrev pub medium_variable : Variable
medium_variable = naming 1 medium_number medium_value Loop

-- M_VERSION, 7 bits: 32 is 2.0, 33 is 2.1; no other is read
abbrev pub version_number : Version → ℕ
version_number versions.V2_0 = 32
version_number versions.V2_1 = 33

abbrev pub version_variable : Variable
version_variable = naming 7 version_number version_value WrongVersion

-- M_DUP, 2 bits: 0 is no duplicate, 1 duplicates the next balise, 2 the previous one; 3 is spare
abbrev pub dup_number : Dup → ℕ
dup_number dups.Single = 0
dup_number dups.Next = 1
dup_number dups.Previous = 2

abbrev pub duplicate_variable : Variable
duplicate_variable = naming 2 dup_number dup_value Spare

-- Q_SCALE, 2 bits: 0 is 10 cm, 1 is 1 m, 2 is 10 m; 3 is spare
abbrev pub scale_number : Scale → ℕ
scale_number scales.TenCentimetres = 0
scale_number scales.Metre = 1
scale_number scales.TenMetres = 2

abbrev pub scale_variable : Variable
scale_variable = naming 2 scale_number scale_value Spare

-- Q_DIR, 2 bits: 0 is reverse, 1 is nominal, 2 is both; 3 is spare
abbrev pub dir_number : Dir → ℕ
dir_number dirs.Reverse = 0
dir_number dirs.Nominal = 1
dir_number dirs.Both = 2

abbrev pub dir_variable : Variable
dir_variable = naming 2 dir_number dir_value Spare
