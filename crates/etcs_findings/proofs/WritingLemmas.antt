-- What is appended one after the other: members, the items of a list, and the objects that they make.
use Rattle.std.proofs.Common.{◌≡◌, ◌∙◌, ◌+◌, ◌<◌, ◌≤◌, ℕ, suc, List, [], ◌∷◌, add-one, ap, drop, get_or, length, map, refl, sym, subst}
use Rattle.std.specs.Prelude.{OnOk, Result}
use Rattle.std.proofs.Math.Seq.{drop-cons}
use Rattle.std.proofs.lemmas.List.{drop_all}
use Rattle.std.proofs.lemmas.List.Sums.{fold-append}
use Rattle.std.proofs.lemmas.Result.{on_ok_weaker}
use Rattle.json.specs.Json.{Json, Items, Members, array, item, member, no_members}
use Rattle.json.specs.Token.{begin_array, begin_object, end_array, end_object, key}
use Rattle.json.specs.Tree.{items_tokens, json_tokens, members_tokens}
use Rattle.etcs_digits.specs.JsonLineWriter.{Line, put, puts}
use Rattle.etcs_findings.specs.Members.{json_items, with_text}
use Rattle.etcs_findings.specs.Writing.{AddsMembers}

-- some members, and then others
pub adds_then : {f g : Members → Members} {a b c : Line} → AddsMembers f a b → AddsMembers g b c → AddsMembers (λ rest. f (g rest)) a c
adds_then {f = f} {g = g} one two = record { added = λ rest. one.added (g rest) ∙ two.added rest }

-- the text of a member, from an equation
pub text_is : {t u : List ℕ} {a b : Line} (name : List ℕ) → t ≡ u → AddsMembers (with_text name t) a b → AddsMembers (with_text name u) a b
text_is {a = a} {b = b} name is = subst (λ (w : List ℕ). AddsMembers (with_text name w) a b) is

-- some members, and then those of the last call of a function
pub then_adds : {T E : Type 0} {f : Members → Members} {a b : Line} (g : Members → Members) (c : Line) (r : Result T E) → AddsMembers f a b → OnOk r (AddsMembers g b c)
    → OnOk r (AddsMembers (λ rest. f (g rest)) a c)
then_adds g c r one two = on_ok_weaker r (λ more. adds_then one more) two

-- a key, and then its value
pub adds_member : {b c : Line} (a : Line) (name : List ℕ) (j : Json) → b ≡ puts a (key name ∷ []) → c ≡ puts b (json_tokens j) → AddsMembers (member name j) a c
adds_member a name j named valued = record {
  added = λ rest. fold-append put (put a (key name)) (json_tokens j) (members_tokens rest)
      ∙ ap (λ l. puts l (members_tokens rest)) (sym (valued ∙ ap (λ l. puts l (json_tokens j)) named));
}

-- members between the brackets of an object
pub makes_object : {f : Members → Members} {b c d : Line} (a : Line) → b ≡ puts a (begin_object ∷ []) → AddsMembers f b c → d ≡ puts c (end_object ∷ [])
    → d ≡ puts a (begin_object ∷ members_tokens (f no_members))
makes_object {f = f} a begun members ended = ended ∙ sym (members.added no_members) ∙ ap (λ l. puts l (members_tokens (f no_members))) begun

-- ---- lists

-- an item, and then the items after it
adds_item : (a b : Line) (j : Json) (js : Items) → b ≡ puts a (json_tokens j) → puts a (items_tokens (item j js)) ≡ puts b (items_tokens js)
adds_item a b j js added = fold-append put a (json_tokens j) (items_tokens js) ∙ ap (λ l. puts l (items_tokens js)) (sym added)

-- One item more is appended: the items that are left make the same line.
pub next_added : {X : Type 0} (to : X → Json) (start a b : Line) (xs : List X) (i : ℕ) (d : X) → i < length xs
    → puts start (items_tokens (json_items to xs)) ≡ puts a (items_tokens (json_items to (drop i xs))) → b ≡ puts a (json_tokens (to (get_or xs i d)))
    → puts start (items_tokens (json_items to xs)) ≡ puts b (items_tokens (json_items to (drop (i + 1) xs)))
next_added to start a b xs i d within before added =
    before ∙ ap (λ ys. puts a (items_tokens (json_items to ys))) (drop-cons xs i d within)
    ∙ adds_item a b (to (get_or xs i d)) (json_items to (drop (suc i) xs)) added
    ∙ ap (λ k. puts b (items_tokens (json_items to (drop k xs)))) (sym (add-one i))

-- all items between the brackets of a list
pub makes_list : {X : Type 0} (to : X → Json) (a start b c : Line) (xs : List X) (i : ℕ) → start ≡ puts a (begin_array ∷ []) → length xs ≤ i
    → puts start (items_tokens (json_items to xs)) ≡ puts b (items_tokens (json_items to (drop i xs))) → c ≡ puts b (end_array ∷ [])
    → c ≡ puts a (json_tokens (array (json_items to xs)))
makes_list to a start b c xs i begun past before ended =
    ended ∙ ap (λ ys. puts b (items_tokens (json_items to ys))) (sym (drop_all i xs past)) ∙ sym before
    ∙ ap (λ l. puts l (items_tokens (json_items to xs))) begun

-- the items of values that are seen through a view
pub items_of_view : {X Y : Type 0} (to : Y → Json) (view : X → Y) (xs : List X) → json_items (λ x. to (view x)) xs ≡ json_items to (map view xs)
items_of_view to view [] = refl
items_of_view to view (x ∷ xs) = ap (item (to (view x))) (items_of_view to view xs)
