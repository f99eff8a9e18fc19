-- The members of an object. The last member with a name counts.
use Rattle.std.proofs.Common.{◌≡◌, ◌∙◌, ℕ, Bool, true, false, cond, List, Option, Some, None, bytes_eq, option_map, ap, sym, refl}
use Rattle.std.proofs.lemmas.Slice.Eq.{bytes_eq-Decides}
use Rattle.json.specs.Json as json
use Rattle.json.specs.Find as find
use Rattle.json.specs.Find.{later_or}
use Rattle.serde_json.specs.Data.{Data, Members, Num, no_members, put}
use Rattle.serde_json.specs.Find.{get, get_member}
use Rattle.serde_json.specs.Read.{number_of}
use Rattle.serde_json.proofs.Views.{get_member-put, get_member-put_other}
use Rattle.etcs_schema.specs.json_value.Texts.{json_data, members_data, number_or_null}

-- the data of a member, or the data found before
abbrev data_or : Option json.Json → Option Data → Option Data
data_or None before = before
data_or (Some j) before = Some (json_data j)

differ : (k l : List ℕ) → bytes_eq k l ≡ false → l ≡ k → ⊥
differ k l e same = let is : bytes_eq k l ≡ true = (bytes_eq-Decides k l).1 (sym same) in absurd (cc)

one_more : (name k : List ℕ) (j : json.Json) (old : Members) (b : Bool) → bytes_eq k name ≡ b → (later : Option json.Json)
    → data_or later (get_member name (put k (json_data j) old)) ≡ data_or (later_or later (cond b (Some j) None)) (get_member name old)
one_more name k j old b e (Some i) = refl
one_more name k j old true e None =
    let same : k ≡ name = (bytes_eq-Decides k name).0 e in
    ap (λ n. get_member n (put k (json_data j) old)) (sym same) ∙ get_member-put k (json_data j) old
one_more name k j old false e None = get_member-put_other name k (json_data j) old (differ k name e)

members_found : (name : List ℕ) (ms : json.Members) (old : Members) → get_member name (members_data ms old) ≡ data_or (find.get_member name ms) (get_member name old)
members_found name json.no_members old = refl
members_found name (json.member k j ms) old = members_found name ms (put k (json_data j) old) ∙ one_more name k j old (bytes_eq k name) refl (find.get_member name ms)

data_mapped : {A : Type 0} (view : A → json.Json) (o : Option A) → option_map (λ a. json_data (view a)) o ≡ data_or (option_map view o) None
data_mapped view None = refl
data_mapped view (Some a) = refl

no_member : (name : List ℕ) (o : Option Num) → None ≡ get name (number_or_null o)
no_member name None = refl
no_member name (Some n) = refl

found : (name : List ℕ) (j : json.Json) → data_or (find.get name j) None ≡ get name (json_data j)
found name json.null = refl
found name (json.boolean b) = refl
found name (json.number s) = no_member name (number_of s)
found name (json.string s) = refl
found name (json.array js) = refl
found name (json.object ms) = sym (members_found name ms no_members)

-- what is found in a tree is found in its data
pub member_found : {A : Type 0} (view : A → json.Json) (o : Option A) (name : List ℕ) (j : json.Json) → option_map view o ≡ find.get name j
    → option_map (λ a. json_data (view a)) o ≡ get name (json_data j)
member_found view o name j e = data_mapped view o ∙ ap (λ p. data_or p None) e ∙ found name j
