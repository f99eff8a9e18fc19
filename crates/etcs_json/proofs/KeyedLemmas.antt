-- A level's number and Q_LENGTH are read as types that allow just what the bits allow, and nothing follows
-- most of their numbers.
use Rattle.std.proofs.Common.{◌≡◌, ◌≢◌, ℕ, arith}
use Rattle.std.proofs.Math.Path.{fun_ext}
use Rattle.std.proofs.lemmas.Bool.Decides.{nat_tests}
use Rattle.etcs_bits.specs.layout.Fields.{nothing}
use Rattle.etcs_bits.specs.variables.Level.{level_numbered, level_variable}
use Rattle.etcs_bits.specs.variables.Variables.{plain, ranged}
use Rattle.etcs_radio.specs.Integrity.{length_numbered, length_variable}
use Rattle.etcs_schema.specs.Variables.{is_allowed}

level_allows : (n : ℕ) → is_allowed (ranged 3 4 8) n ≡ is_allowed level_variable n
level_allows n = grind (arith, nat_tests)

pub level_numbers : is_allowed (ranged 3 4 8) ≡ is_allowed level_variable
level_numbers = fun_ext level_allows

-- only 1 is followed by NID_NTC
pub level_ends : (n : ℕ) → n ≢ 1 → level_numbered.next n ≡ nothing
level_ends n other = grind (arith, nat_tests)

length_allows : (n : ℕ) → is_allowed (plain 2) n ≡ is_allowed length_variable n
length_allows n = grind (arith, nat_tests)

pub length_numbers : is_allowed (plain 2) ≡ is_allowed length_variable
length_numbers = fun_ext length_allows

-- only 1 and 2 are followed by L_TRAININT
pub length_ends : (n : ℕ) → n ≢ 1 → n ≢ 2 → length_numbered.next n ≡ nothing
length_ends n one two = grind (arith, nat_tests)
