-- Variables whose numbers have names: which numbers they have, and the value of each.
use Rattle.std.proofs.Common.{◌≡◌, ℕ, zero, suc, ◌^◌, true, false, refl, sym, subst, ltb, ◌&&◌, arith}
use Rattle.std.proofs.lemmas.Bool.{and_parts, ltb-true, eqb-true}
use Rattle.etcs_bits.specs.declared.layout.fault.FaultKind.{FaultKind}
use Rattle.etcs_bits.specs.declared.variables.transmission.Transmission.TheVariants as transmissions
use Rattle.etcs_bits.specs.declared.variables.medium.Medium.TheVariants as media
use Rattle.etcs_bits.specs.declared.variables.version.Version.TheVariants as versions
use Rattle.etcs_bits.specs.declared.variables.scale.Scale.TheVariants as scales
use Rattle.etcs_bits.specs.declared.variables.direction.Dir.TheVariants as dirs
use Rattle.etcs_bits.specs.declared.variables.duplicate.Dup.TheVariants as dups
use Rattle.etcs_bits.specs.bits.Number.{worth}
use Rattle.etcs_bits.specs.layout.Rows.{Variable, row, alone, IsAllowed}
use Rattle.etcs_bits.specs.layout.Found.{row_number}
use Rattle.etcs_bits.specs.variables.Variables.{plain, naming, transmission_variable, transmission_number, medium_variable, medium_number, version_variable, version_number, duplicate_variable, dup_number, scale_variable, scale_number, dir_variable, dir_number}
use Rattle.etcs_bits.specs.variables.VariableValues.{transmission_value, medium_value, version_value, dup_value, scale_value, dir_value, flag_value}
use Rattle.etcs_bits.specs.layout.Values.{AreNames, HasValues}

-- the number of the only row
pub number_alone : (x : Variable) (n : ℕ) → row_number 0 (alone x n) ≡ n
unfolding alone
number_alone x n = refl

-- a variable has the numbers of its values if no other number is allowed
values : {X : Type 0} {x : Variable} {number : X → ℕ} {of : ℕ → X} → AreNames x number of
    → ((n : ℕ) → IsAllowed (row x n) → number (of n) ≡ n) → HasValues x x.width number of
values {X = X} {x = x} {number = number} {of = of} names all = record {
  numbers = record {
    width = refl;
    numbers = λ n. (
      λ allowed. (of n, all n allowed),
      λ (v, e). subst (λ (m : ℕ). IsAllowed (row x m)) e (allowed_by v),
    );
  };
  back = λ v. (names v).0;
}
  where
    allowed_by : (v : X) → IsAllowed (row x (number v))
    allowed_by v =
        let parts = and_parts (ltb (number v) (2 ^ x.width)) (x.allows (number v)) (names v).1 in
        (ltb-true (number v) (2 ^ x.width) parts.0, parts.1)

-- variables that allow just the numbers of their values
pub names_have_values : {X : Type 0} {w : ℕ} {number : X → ℕ} {of : ℕ → X} {why : FaultKind}
    → AreNames (naming w number of why) number of → HasValues (naming w number of why) w number of
names_have_values {number = number} {of = of} names =
    values names (λ n allowed. sym (eqb-true n (number (of n)) allowed.1))

flag_names : AreNames (plain 1) worth flag_value
flag_names true = (refl, refl)
flag_names false = (refl, refl)

flag_numbers : (n : ℕ) → IsAllowed (row (plain 1) n) → worth (flag_value n) ≡ n
flag_numbers zero allowed = refl
flag_numbers (suc zero) allowed = refl
flag_numbers (suc (suc n)) allowed = absurd (omega (arith, allowed.0))

pub flags_have_values : HasValues (plain 1) 1 worth flag_value
flags_have_values = values flag_names flag_numbers

pub transmission_names : AreNames transmission_variable transmission_number transmission_value
transmission_names transmissions.TrackToTrain = (refl, refl)

pub medium_names : AreNames medium_variable medium_number medium_value
medium_names media.Balise = (refl, refl)

pub version_names : AreNames version_variable version_number version_value
version_names versions.V2_0 = (refl, refl)
version_names versions.V2_1 = (refl, refl)

pub dup_names : AreNames duplicate_variable dup_number dup_value
dup_names dups.Single = (refl, refl)
dup_names dups.Next = (refl, refl)
dup_names dups.Previous = (refl, refl)

pub scale_names : AreNames scale_variable scale_number scale_value
scale_names scales.TenCentimetres = (refl, refl)
scale_names scales.Metre = (refl, refl)
scale_names scales.TenMetres = (refl, refl)

pub dir_names : AreNames dir_variable dir_number dir_value
dir_names dirs.Reverse = (refl, refl)
dir_names dirs.Nominal = (refl, refl)
dir_names dirs.Both = (refl, refl)
