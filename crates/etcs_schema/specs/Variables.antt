-- The variables of the standard as whole numbers of JSON (SUBSET-026, 7.5.1).
use Rattle.std.specs.Prelude.{◌≡◌, ◌≤◌, ℕ, ◌^◌, ◌&&◌, Bool, true, false, Ok, ltb, refl}
use Rattle.etcs_schema.specs.Prelude.{and_from, lt-ltb, Fields, field, AreAllowed, IsAllowed, Variable, alone, row, dir_number, dir_variable, dup_number, duplicate_variable, plain, scale_number, scale_variable, version_number, version_variable}
use Rattle.etcs_bits.specs.bits.Number.{worth}
use Rattle.etcs_bits.specs.declared.layout.fault.FaultKind.TheVariants.{Spare}
use Rattle.etcs_bits.specs.declared.variables.direction.Dir.{Dir}
use Rattle.etcs_bits.specs.declared.variables.duplicate.Dup.{Dup}
use Rattle.etcs_bits.specs.declared.variables.scale.Scale.{Scale}
use Rattle.etcs_bits.specs.declared.variables.version.Version.{Version}
use Rattle.etcs_bits.specs.layout.Values.{AreNames}
use Rattle.etcs_bits.specs.lemmas.VariableLemmas.{dir_names, dup_names, scale_names, version_names}
use Rattle.etcs_bits.specs.variables.VariableValues.{dir_value, dup_value, flag_value, scale_value, version_value}
use Rattle.etcs_schema.specs.ReadBack.{IsReadBack, number_back, number_depth}
use Rattle.etcs_schema.specs.Reading.{allowed_number}
use Rattle.etcs_schema.specs.Codec.{Codec, number_again, number_data, renamed}

-- whether a number fits in the bits of a variable and is allowed
abbrev pub is_allowed : Variable → ℕ → Bool
is_allowed x n = ltb n (2 ^ x.width) && x.allows n

pub number_allowed : (x : Variable) (n : ℕ) → IsAllowed (row x n) → is_allowed x n ≡ true
number_allowed x n allowed = and_from _ _ (lt-ltb n (2 ^ x.width) allowed.0) allowed.1

pub variable_again : (x : Variable) (n : ℕ) → AreAllowed (alone x n)
    → allowed_number (is_allowed x) (number_data n) ≡ Ok n
unfolding alone
variable_again x n allowed = number_again (is_allowed x) n (number_allowed x n allowed.0)

pub variable_back : (x : Variable) (n : ℕ) → number_depth (2 ^ x.width) ≤ n → (k : ℕ) → AreAllowed (alone x k)
    → IsReadBack n (number_data k)
unfolding alone
variable_back x n deep k allowed = number_back (2 ^ x.width) n k deep allowed.0.0

-- a variable as its number
abbrev pub variable : Variable → Codec ℕ
variable x = record {
  rows = alone x;
  to = number_data;
  of = allowed_number (is_allowed x);
  again = variable_again x;
  back = (number_depth (2 ^ x.width), variable_back x);
}

-- the first variable of some fields; without fields, a variable that allows no number
abbrev pub first_variable : Fields → Variable
first_variable (field x next) = x
first_variable other = record { width = 0; allows = λ _. false; refusal = Spare; closes = false }

abbrev pub number : Fields → Codec ℕ
number f = variable (first_variable f)

-- a variable whose numbers have names in an enum
abbrev pub named_numbers : {X : Type 0} (x : Variable) (tag : X → ℕ) (of : ℕ → X) → AreNames x tag of
    → Codec X
named_numbers x tag of are = renamed of tag (λ v. (are v).0) (variable x)

pub flag_names : AreNames (plain 1) worth flag_value
flag_names true = (refl, refl)
flag_names false = (refl, refl)

-- a flag is the number of its bit
abbrev pub flag : Codec Bool
flag = named_numbers (plain 1) worth flag_value flag_names

-- Q_DIR: the running directions that a packet is for
abbrev pub direction : Codec Dir
direction = named_numbers dir_variable dir_number dir_value dir_names

-- Q_SCALE: the unit of distances
abbrev pub scale : Codec Scale
scale = named_numbers scale_variable scale_number scale_value scale_names

-- M_DUP: which neighbour the balise duplicates
abbrev pub duplicate : Codec Dup
duplicate = named_numbers duplicate_variable dup_number dup_value dup_names

-- M_VERSION: the version of the ETCS system
abbrev pub version : Codec Version
version = named_numbers version_variable version_number version_value version_names
