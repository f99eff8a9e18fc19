-- The tokens of an object's or array's parts make its form.
use Rattle.std.proofs.Common.{◌≡◌, ◌++◌, ◌+◌, ◌<◌, ℕ, List, [], ◌∷◌, length, take, Option, Some, None, refl, ap, sym, subst, ◌∙◌, append_assoc, append-nil, get_or}
use Rattle.std.proofs.lemmas.List.{take_more}
use Rattle.json.specs.Token.{Token, begin_array, begin_object, end_array, end_object, key}
use Rattle.json.specs.Tree.{items_tokens, members_tokens}
use Rattle.serde_json.specs.Data.{Data, array, object}
use Rattle.serde_json.specs.Written.{items_outline, members_outline}
use Rattle.etcs_schema.specs.Entries.{Entry, entries_object}
use Rattle.etcs_schema.specs.Writing.{AddsMembers, each_tokens, entries_tokens, sorted, data_tokens}
use Rattle.etcs_schema.specs.Codec.{Object, encoded_items, entries_apart}
use Rattle.etcs_schema.specs.lemmas.SortedLemmas.{made_members, members_of}

-- ---- arrays

each_snoc : {X : Type 0} (to : X → Data) (xs : List X) (x : X) → each_tokens to (xs ++ x ∷ []) ≡ each_tokens to xs ++ data_tokens (to x)
each_snoc to [] x = append-nil (data_tokens (to x))
each_snoc to (y ∷ ys) x = ap (λ ts. data_tokens (to y) ++ ts) (each_snoc to ys x) ∙ sym (append_assoc (data_tokens (to y)) (each_tokens to ys) (data_tokens (to x)))

array_tokens : {X : Type 0} (to : X → Data) (xs : List X) → items_tokens (items_outline (encoded_items to xs)) ≡ each_tokens to xs ++ end_array ∷ []
array_tokens to [] = refl
array_tokens to (x ∷ xs) = ap (λ ts. data_tokens (to x) ++ ts) (array_tokens to xs) ∙ sym (append_assoc (data_tokens (to x)) (each_tokens to xs) (end_array ∷ []))

-- ---- objects

member_tokens : (k : List ℕ) (o : Option Data) (es : List Entry) → members_tokens (members_outline (members_of es)) ≡ entries_tokens es ++ end_object ∷ []
    → members_tokens (members_outline (members_of ((k, o) ∷ es))) ≡ entries_tokens ((k, o) ∷ es) ++ end_object ∷ []
member_tokens k None es rest = rest
member_tokens k (Some d) es rest = ap (λ ts. key k ∷ (data_tokens d ++ ts)) rest ∙ ap (λ ts. key k ∷ ts) (sym (append_assoc (data_tokens d) (entries_tokens es) (end_object ∷ [])))

object_tokens : (es : List Entry) → members_tokens (members_outline (members_of es)) ≡ entries_tokens es ++ end_object ∷ []
object_tokens [] = refl
object_tokens (e ∷ es) = member_tokens e.0 e.1 es (object_tokens es)

-- ---- tokens that were appended one after the other

module _ {M : Type 0} (adds : List Token → M → M → Type 0) (then : (ts us : List Token) (old mid new : M) → adds ts old mid → adds us mid new → adds (ts ++ us) old new) where
  -- one item more
  pub each_more : {X : Type 0} (to : X → Data) (xs : List X) (i : ℕ) (x : X) (old mid new : M) → i < length xs → x ≡ get_or xs i x
      → adds (each_tokens to (take i xs)) old mid → adds (data_tokens (to x)) mid new → adds (each_tokens to (take (i + 1) xs)) old new
  each_more to xs i x old mid new lt is some one =
      let longer = take_more xs i x lt ∙ ap (λ y. take i xs ++ y ∷ []) (sym is) in
      rw (longer, each_snoc to (take i xs) x) (then (each_tokens to (take i xs)) (data_tokens (to x)) old mid new some one)

  -- a key and then its value
  pub member_sent : (name : List ℕ) (d : Data) (old named new : M) → adds (key name ∷ []) old named → adds (data_tokens d) named new → adds (entries_tokens ((name, Some d) ∷ [])) old new
  member_sent name d old named new one two = rw (append-nil (key name ∷ data_tokens d)) (then (key name ∷ []) (data_tokens d) old named new one two)

  -- a key and then a list
  pub array_sent : {X : Type 0} (to : X → Data) (name : List ℕ) (xs : List X) (old named begun sent new : M)
      → adds (key name ∷ []) old named → adds (begin_array ∷ []) named begun → adds (each_tokens to xs) begun sent → adds (end_array ∷ []) sent new
      → AddsMembers adds ((name, Some (array (encoded_items to xs))) ∷ []) old new
  unfolding AddsMembers
  array_sent to name xs old named begun sent new one two three four =
      member_sent name (array (encoded_items to xs)) old named new one
      (rw (array_tokens to xs) (then (begin_array ∷ []) _ named begun new two (then (each_tokens to xs) (end_array ∷ []) begun sent new three four)))

  -- a value that is the object of these members, in the order in which they are sent
  pub sent_as : (es : List Entry) (d : Data) (old begun sent new : M) → object (members_of es) ≡ d
      → adds (begin_object ∷ []) old begun → AddsMembers adds es begun sent → adds (end_object ∷ []) sent new → adds (data_tokens d) old new
  unfolding AddsMembers
  sent_as es d old begun sent new is one two three =
      subst (λ e. adds (data_tokens e) old new) is
      (rw (object_tokens es) (then (begin_object ∷ []) _ old begun new one (then (entries_tokens es) (end_object ∷ []) begun sent new two three)))

  -- the members between the two braces of an object
  pub object_sent : {X : Type 0} (o : Object X) (x : X) (old begun sent new : M)
      → adds (begin_object ∷ []) old begun → AddsMembers adds (sorted (o.members.to x)) begun sent → adds (end_object ∷ []) sent new → adds (data_tokens (entries_object (o.members.to x))) old new
  object_sent o x old begun sent new = sent_as (sorted (o.members.to x)) _ old begun sent new (ap object (sym (made_members (o.members.to x) (entries_apart o.members o.readable x))))
