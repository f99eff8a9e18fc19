-- Values whose text is read as the same value: numbers of 64 bits, texts, and lists and objects of them.
use Rattle.std.specs.Prelude.{◌≡◌, ◌-◌, ◌<◌, ◌≤◌, ◌^◌, ℕ, true, List, [], ◌∷◌, Some, None, IfSome, decimal, if◌then◌else◌, nat_le, option_map, refl}
use Rattle.std.specs.List.{AllByRecursion}
use Rattle.std.proofs.lemmas.Bool.Decides.{nat_tests}
use Rattle.json.specs.Print.{IsNumber}
use Rattle.json.specs.Tree.{HasNumbers, MembersHaveNumbers, depth, members_depth}
use Rattle.serde_json.specs.Read.{number_of, of_json, of_members}
use Rattle.serde_json.specs.Written.{members_outline, outline}
use Rattle.etcs_schema.specs.Prelude.{◌∙◌, ap, arith, Data, Members, no_members, number, object, put, string, unsigned, AreAllowed, Row}
use Rattle.etcs_schema.specs.Entries.{Entry, are_apart, entries_object, entry_keys, with_entries}
use Rattle.etcs_schema.specs.Writing.{sorted}
use Rattle.etcs_schema.specs.lemmas.SortedLemmas.{all_onto, made_members, members_of, onto_sorted}

-- A number of 64 bits is read from its digits. ReadBackProofs proves it, by lemmas that no contract may cite.
abbrev pub NumbersAreRead : Type 0
NumbersAreRead = (k : ℕ) → k < 2 ^ 64 → (number_of (decimal k) ≡ Some (unsigned k)) × IsNumber (decimal k)

-- The text of d is read as d: the JSON of d stands for d, its numbers are numbers of JSON, and it is at most n
-- deep. JSON that is more than 127 deep is not read.
unfoldable pub IsReadBack : ℕ → Data → Type 0
IsReadBack n d = NumbersAreRead → n ≤ 127
    → (of_json (outline d) ≡ Some d) × HasNumbers (outline d) × (depth (outline d) ≤ n)

abbrev pub AreReadBack : ℕ → List Entry → Type 0
AreReadBack n es = AllByRecursion (λ e. IfSome e.1 (IsReadBack n)) es

-- the forms of values with allowed rows are read back, at each depth from `least`
abbrev pub ReadsBack : {X : Type 0} → (X → List Row) → (ℕ → X → Type 0) → Type 0
ReadsBack {X = X} rows Is = (least : ℕ) × ((n : ℕ) → least ≤ n → (x : X) → AreAllowed (rows x) → Is n x)

-- the depth of a number below m; it is too large if the number might not fit in 64 bits
abbrev pub number_depth : ℕ → ℕ
number_depth m = if nat_le m (2 ^ 64) then 0 else 128

number_fits : (m n k : ℕ) → number_depth m ≤ n → n ≤ 127 → k < m → k < 2 ^ 64
number_fits m n k deep few below = grind (arith, nat_tests)

pub number_back : (m n k : ℕ) → number_depth m ≤ n → k < m → IsReadBack n (number (unsigned k))
unfolding IsReadBack
number_back m n k deep below numbers few =
    let read = numbers k (number_fits m n k deep few below) in
    (ap (option_map number) read.0, read.1, omega arith)

pub string_back : (n : ℕ) (s : List ℕ) → IsReadBack n (string s)
unfolding IsReadBack
string_back n s numbers few = (refl, tt, omega arith)

members_back : (n : ℕ) (es : List Entry) → NumbersAreRead → n ≤ 127 → AreReadBack n es → (found : Members)
    → (of_members (members_outline (members_of es)) found ≡ Some (with_entries found es))
    × MembersHaveNumbers (members_outline (members_of es))
    × (members_depth (members_outline (members_of es)) ≤ n)
unfolding IsReadBack
members_back n [] numbers few are found = (refl, tt, omega arith)
members_back n ((k, None) ∷ es) numbers few are found = members_back n es numbers few are.1 found
members_back n ((k, Some d) ∷ es) numbers few are found =
    let one = are.0 numbers few in
    let more = members_back n es numbers few are.1 (put k d found) in
    (rw one.0 more.0, (one.1, more.1), omega arith)

pub object_back : (n : ℕ) (es : List Entry) → are_apart (entry_keys es) ≡ true → 0 < n
    → AreReadBack (n - 1) es → IsReadBack n (entries_object es)
unfolding IsReadBack
object_back n es apart deep are numbers few =
    let all = all_onto (λ e. IfSome e.1 (IsReadBack (n - 1))) [] es tt are in
    let back = members_back (n - 1) (sorted es) numbers (omega arith) all no_members in
    let same = onto_sorted es apart ∙ made_members es apart in
    rw (made_members es apart) (ap (option_map object) (back.0 ∙ ap Some same), back.1, omega arith)
