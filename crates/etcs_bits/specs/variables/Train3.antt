-- The variables of a position report that say a direction or a side, as seen from the group that the
-- report refers to (SUBSET-026, 7.5.1): 0 is reverse, 1 is nominal, 2 is unknown; 3 is spare.
use Rattle.std.specs.Prelude.{ℕ, ◌==◌, if◌then◌else◌, refl}
use Rattle.etcs_bits.specs.declared.layout.fault.FaultKind.TheVariants.{Spare}
use Rattle.etcs_bits.specs.layout.Rows.{Variable}
use Rattle.etcs_bits.specs.layout.Format.{Format, names}
use Rattle.etcs_bits.specs.variables.Variables.{naming}
use Rattle.etcs_bits.specs.layout.Values.{AreNames}
use Rattle.etcs_bits.specs.lemmas.VariableLemmas.{names_have_values}
use Rattle.etcs_bits.specs.declared.variables.train3.Train3.{Train3}
use Rattle.etcs_bits.specs.declared.variables.train3.Train3.TheVariants as sides

-- the number of each value
abbrev pub train3_number : Train3 → ℕ
train3_number sides.Reverse = 0
train3_number sides.Nominal = 1
train3_number sides.Unknown = 2

-- ---- the value of each number
-- Pinned by the law sides_have_their_numbers.

abbrev pub train3_value : ℕ → Train3
train3_value n = if n == 0 then sides.Reverse else (if n == 1 then sides.Nominal else sides.Unknown)

-- ---- the variable

abbrev pub train3_variable : Variable
train3_variable = naming 2 train3_number train3_value Spare

pub train3_names : AreNames train3_variable train3_number train3_value
train3_names sides.Reverse = (refl, refl)
train3_names sides.Nominal = (refl, refl)
train3_names sides.Unknown = (refl, refl)

abbrev pub train3 : Format Train3
train3 = names train3_variable 2 train3_number train3_value (names_have_values train3_names)

-- Q_DIRLRBG, 2 bits: how the train stands; nominal if its front looks in the group's direction
abbrev pub q_dirlrbg : Format Train3
q_dirlrbg = train3

-- Q_DLRBG, 2 bits: on which side of the group the train's front is
abbrev pub q_dlrbg : Format Train3
q_dlrbg = train3

-- Q_DIRTRAIN, 2 bits: in which direction the train runs
abbrev pub q_dirtrain : Format Train3
q_dirtrain = train3
