-- The members of an object, found by their keys; numbers that are read from their digits; and what such an object
-- needs to be read from its text.
use Rattle.std.proofs.Common.{◌≡◌, ◌<◌, ◌≤◌, ◌^◌, ℕ, Bool, true, false, cond, List, [], Option, Some, None, arith, refl, ap}
use Rattle.std.specs.Prelude.{IfSome, bytes_eq, option_map}
use Rattle.std.specs.Str.Parse.{digits_value}
use Rattle.std.proofs.lemmas.Fmt.{decimal_is_IsNumeral}
use Rattle.json.proofs.Printed.Decimals.{IsNumber-decimal}
use Rattle.json.specs.Find.{get_member, later_or}
use Rattle.json.specs.Json.{Json, Members, member, number, string, null, boolean, array, object}
use Rattle.json.specs.Tree.{MembersHaveNumbers, members_depth}
use Rattle.etcs_findings.specs.Members.{whole, with_option}

-- ---- numbers

-- a number, from its digits
abbrev pub number_from : Json → ℕ
number_from null = 0
number_from (boolean b) = 0
number_from (number s) = digits_value 10 s
number_from (string s) = 0
number_from (array js) = 0
number_from (object ms) = 0

-- a text
abbrev pub text_from : Json → List ℕ
text_from null = []
text_from (boolean b) = []
text_from (number s) = []
text_from (string s) = s
text_from (array js) = []
text_from (object ms) = []

pub number_back : (n : ℕ) → n < 2 ^ 64 → number_from (whole n) ≡ n
number_back n small = (decimal_is_IsNumeral n small).1

pub option_back : (o : Option ℕ) → IfSome o (λ n. n < 2 ^ 64) → option_map number_from (option_map whole o) ≡ o
option_back None small = refl
option_back (Some n) small = ap Some (number_back n small)

-- ---- members

abbrev nothing : Option Json
nothing = None

none_found : (b : Bool) → cond b nothing nothing ≡ nothing
none_found true = refl
none_found false = refl

later_none : (o : Option Json) → later_or o nothing ≡ o
later_none None = refl
later_none (Some j) = refl

passed : (b : Bool) (o p : Option Json) → b ≡ false → later_or o (cond b p nothing) ≡ o
passed true o p is = absurd cc
passed false o p is = later_none o

-- another member is passed over
pub get_past : (name key : List ℕ) (j : Json) (rest : Members) → bytes_eq key name ≡ false → get_member name (member key j rest) ≡ get_member name rest
get_past name key j rest other = passed (bytes_eq key name) (get_member name rest) (Some j) other

pub option_past : (name key : List ℕ) (o : Option ℕ) (rest : Members) → bytes_eq key name ≡ false → get_member name (with_option key o rest) ≡ get_member name rest
option_past name key None rest other = refl
option_past name key (Some n) rest other = get_past name key (whole n) rest other

-- the member with this key, if no later member has it
pub option_here : (name : List ℕ) (o : Option ℕ) (rest : Members) → bytes_eq name name ≡ true → get_member name rest ≡ nothing
    → get_member name (with_option name o rest) ≡ option_map whole o
option_here name None rest same none = none
option_here name (Some n) rest same none = rw (same, none) refl

-- ---- what is read from its text

pub option_numbers : (key : List ℕ) (o : Option ℕ) (rest : Members) → IfSome o (λ n. n < 2 ^ 64) → MembersHaveNumbers rest → MembersHaveNumbers (with_option key o rest)
option_numbers key None rest small have = have
option_numbers key (Some n) rest small have = (IsNumber-decimal n small, have)

pub option_depth : (key : List ℕ) (o : Option ℕ) (rest : Members) (d : ℕ) → members_depth rest ≤ d → members_depth (with_option key o rest) ≤ d
option_depth key None rest d few = few
option_depth key (Some n) rest d few = omega (arith, few)
