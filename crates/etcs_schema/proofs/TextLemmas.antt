-- What serde_json reads of a tree: its data, if all numbers are in range.
use Rattle.std.proofs.Common.{◌≡◌, ◌∙◌, ◌&&◌, ◌+◌, ◌<◌, ℕ, Bool, true, Global, List, [], ◌∷◌, drop, get_or, length, Option, Some, None, IfSome, option_map, option_and_then, ap, ap₂, sym, refl, subst}
use Rattle.std.specs.Borrow.{Bor}
use Rattle.std.specs.List.{list_all}
use Rattle.std.specs.Prelude.{is_some}
use Rattle.std.proofs.lemmas.List.{drop_more}
use Rattle.json.specs.Json as json
use Rattle.json.specs.Value.{items_view, members_view, value_view}
use Rattle.json.specs.declared.value.Value.{Value}
use Rattle.serde_json.specs.Data.{Num, Data, Items, Members, array, item, no_members, number, object, put}
use Rattle.serde_json.specs.Read.{number_of, of_items, of_json, of_members}
use Rattle.etcs_schema.specs.json_value.Texts.{json_data, items_data, members_data, number_or_null}

-- ---- whether it is read

mapped_some : {A B : Type 0} (f : A → B) (o : Option A) → is_some (option_map f o) ≡ is_some o
mapped_some f None = refl
mapped_some f (Some a) = refl

item_some : (o : Option Data) (p : Option Items) → is_some (option_and_then (λ d. option_map (item d) p) o) ≡ is_some o && is_some p
item_some None p = refl
item_some (Some d) p = mapped_some (item d) p

items_some : (vs : List (Value Global)) → is_some (of_items (items_view vs)) ≡ list_all (λ v. is_some (of_json (value_view v))) vs
items_some [] = refl
items_some (v ∷ vs) = item_some (of_json (value_view v)) (of_items (items_view vs)) ∙ ap (λ b. is_some (of_json (value_view v)) && b) (items_some vs)

member_some : (f : Data → Option Members) (rest : Bool) → ((d : Data) → is_some (f d) ≡ rest) → (o : Option Data) → is_some (option_and_then f o) ≡ is_some o && rest
member_some f rest e None = refl
member_some f rest e (Some d) = e d

members_some : (ms : List (Bor (List ℕ) × Value Global)) (old : Members) → is_some (of_members (members_view ms) old) ≡ list_all (λ m. is_some (of_json (value_view m.1))) ms
members_some [] old = refl
members_some (m ∷ ms) old = member_some (λ d. of_members (members_view ms) (put m.0.now d old)) _ (λ d. members_some ms (put m.0.now d old)) (of_json (value_view m.1))

pub array_some : (vs : List (Value Global)) → is_some (of_json (json.array (items_view vs))) ≡ list_all (λ v. is_some (of_json (value_view v))) vs
array_some vs = mapped_some array (of_items (items_view vs)) ∙ items_some vs

pub object_some : (ms : List (Bor (List ℕ) × Value Global)) → is_some (of_json (json.object (members_view ms))) ≡ list_all (λ m. is_some (of_json (value_view m.1))) ms
object_some ms = mapped_some object (of_members (members_view ms) no_members) ∙ members_some ms no_members

-- one of the remaining elements, and those after it
pub one_tested : {X : Type 0} (p : X → Bool) (xs : List X) (i : ℕ) (x : X) (b all : Bool) → i < length xs → x ≡ get_or xs i x → b ≡ p x → all ≡ list_all p (drop i xs) → all ≡ b && list_all p (drop (i + 1) xs)
one_tested p xs i x b all within is tested so_far =
    so_far ∙ ap (list_all p) (drop_more xs i x within ∙ ap (λ y. y ∷ drop (i + 1) xs) (sym is)) ∙ ap (λ c. c && list_all p (drop (i + 1) xs)) (sym tested)

-- ---- what is read

number_is : (o : Option Num) → IfSome (option_map number o) (λ d. d ≡ number_or_null o)
number_is None = tt
number_is (Some n) = refl

mapped_is : {A B : Type 0} (f : A → B) (o : Option A) (a : A) → IfSome o (λ b. b ≡ a) → IfSome (option_map f o) (λ b. b ≡ f a)
mapped_is f None a is = tt
mapped_is f (Some b) a is = ap f is

item_is : (o : Option Data) (p : Option Items) (d : Data) (ds : Items) → IfSome o (λ e. e ≡ d) → IfSome p (λ es. es ≡ ds) → IfSome (option_and_then (λ e. option_map (item e) p) o) (λ es. es ≡ item d ds)
item_is None p d ds first rest = tt
item_is (Some e) None d ds first rest = tt
item_is (Some e) (Some es) d ds first rest = ap₂ item first rest

member_is : (f : Data → Option Members) (o : Option Data) (d : Data) (new : Members) → IfSome o (λ e. e ≡ d) → IfSome (f d) (λ ms. ms ≡ new) → IfSome (option_and_then f o) (λ ms. ms ≡ new)
member_is f None d new first rest = tt
member_is f (Some e) d new first rest = subst (λ x. IfSome (f x) (λ ms. ms ≡ new)) (sym first) rest

mutual
  json_is : (j : json.Json) → IfSome (of_json j) (λ d. d ≡ json_data j)
  json_is json.null = refl
  json_is (json.boolean b) = refl
  json_is (json.number s) = number_is (number_of s)
  json_is (json.string s) = refl
  json_is (json.array js) = mapped_is array (of_items js) (items_data js) (items_is js)
  json_is (json.object ms) = mapped_is object (of_members ms no_members) (members_data ms no_members) (members_is ms no_members)

  items_is : (js : json.Items) → IfSome (of_items js) (λ ds. ds ≡ items_data js)
  items_is json.no_items = refl
  items_is (json.item j js) = item_is (of_json j) (of_items js) (json_data j) (items_data js) (json_is j) (items_is js)

  members_is : (ms : json.Members) (old : Members) → IfSome (of_members ms old) (λ new. new ≡ members_data ms old)
  members_is json.no_members old = refl
  members_is (json.member k j ms) old =
      member_is (λ d. of_members ms (put k d old)) (of_json j) (json_data j) (members_data ms (put k (json_data j) old)) (json_is j) (members_is ms (put k (json_data j) old))

read_at : (o : Option Data) (d : Data) → IfSome o (λ e. e ≡ d) → true ≡ is_some o → o ≡ Some d
read_at None d is some = absurd (cc)
read_at (Some e) d is some = ap Some is

pub json_read : (j : json.Json) → true ≡ is_some (of_json j) → of_json j ≡ Some (json_data j)
json_read j some = read_at (of_json j) (json_data j) (json_is j) some
