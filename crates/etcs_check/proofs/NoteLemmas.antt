-- Steps of the loops that append findings.
use Rattle.std.proofs.Common.{◌≡◌, ◌≢◌, ℕ, ◌+◌, ◌<◌, Bool, List, [], ◌∷◌, ◌++◌, length, get_or, slice_get, drop, Some, Result, Ok, Err, OnErr, sym, ap, subst, ◌∙◌, arith}
use Rattle.std.specs.List.{flat_map}
use Rattle.std.proofs.lemmas.Option.{same_Some, slice_get_within, slice_get-get_or, get_or_from_slice_get}
use Rattle.std.proofs.lemmas.List.{drop_more, append_assoc}
use Rattle.std.proofs.lemmas.Bool.{cases_eq}
use mathlib.Core.Logic.{inl, inr}
use Rattle.etcs_group.specs.Places.{At}
use Rattle.etcs_check.specs.Findings.{noted, numbered_findings, for_each}
use Rattle.etcs_check.specs.declared.finding.Finding.{Finding}
use Rattle.etcs_check.proofs.FindingLemmas.{for_each-says, flat_map-says, append_parts}

pub on_err : {A E : Type 0} (r : Result A E) (P : Type 0) → P → OnErr r P
on_err (Ok x) P p = tt
on_err (Err e) P p = p

-- the element that was read at an index is at that place
pub index_at : {X : Type 0} (xs : List X) (i : ℕ) (d x : X) → i < length xs → x ≡ get_or xs i d → At xs i x
index_at xs i d x lt is = slice_get-get_or xs i d lt ∙ ap Some (sym is)

pub drop_at : {X : Type 0} (xs : List X) (i : ℕ) (x : X) → At xs i x → drop i xs ≡ x ∷ drop (i + 1) xs
drop_at xs i x at = drop_more xs i x (slice_get_within xs i x at) ∙ ap (λ y. y ∷ drop (i + 1) xs) (get_or_from_slice_get xs i x x at)

-- ---- one step of a loop over items with their places, and one that has a finding

pub each_pushed : {X : Type 0} (f : ℕ → X → List Finding) (xs : List X) (b : ℕ) (x : X) (found more all : List Finding) → At xs b x → more ≡ found ++ f b x → found ++ numbered_findings f b (drop b xs) ≡ all → more ++ numbered_findings f (b + 1) (drop (b + 1) xs) ≡ all
each_pushed f xs b x found more all at e h =
    let rest = numbered_findings f (b + 1) (drop (b + 1) xs) in
    ap (λ l. l ++ rest) e ∙ append_assoc found (f b x) rest ∙ ap (λ l. found ++ l) (sym (ap (numbered_findings f b) (drop_at xs b x at))) ∙ h

pub each_stands : {X : Type 0} (f : ℕ → X → List Finding) (xs : List X) (b : ℕ) (x : X) → At xs b x → f b x ≢ [] → for_each xs f ≢ []
each_stands f xs b x at some h = some (for_each-says xs f h b x at)

-- ---- one step of a loop over items without their places, and one that has a finding

pub flat_pushed : {X : Type 0} (f : X → List Finding) (xs : List X) (i : ℕ) (x : X) (found more all : List Finding) → At xs i x → more ≡ found ++ f x → found ++ flat_map f (drop i xs) ≡ all → more ++ flat_map f (drop (i + 1) xs) ≡ all
flat_pushed f xs i x found more all at e h =
    let rest = flat_map f (drop (i + 1) xs) in
    ap (λ l. l ++ rest) e ∙ append_assoc found (f x) rest ∙ ap (λ l. found ++ l) (sym (ap (flat_map f) (drop_at xs i x at))) ∙ h

pub flat_stands : {X : Type 0} (f : X → List Finding) (xs : List X) (i : ℕ) (x : X) → At xs i x → f x ≢ [] → flat_map f xs ≢ []
flat_stands f xs i x at some h = some (flat_map-says f xs h i x at)

-- ---- a fact that was tested by an equal one

pub noted_as : (a b : Bool) (f : Finding) (found more : List Finding) → more ≡ found ++ noted a f → a ≡ b → more ≡ found ++ noted b f
noted_as a b f found more h e = h ∙ ap (λ q. found ++ noted q f) e

pub stands_as : (a b : Bool) (f : Finding) → noted a f ≢ [] → a ≡ b → noted b f ≢ []
stands_as a b f h e g = h (ap (λ q. noted q f) e ∙ g)

-- ---- two lists appended one after the other

pub first_stands : (xs ys : List Finding) → xs ≢ [] → xs ++ ys ≢ []
first_stands xs ys some h = some (append_parts xs ys h).0

pub second_stands : (xs ys : List Finding) → ys ≢ [] → xs ++ ys ≢ []
second_stands xs ys some h = some (append_parts xs ys h).1

-- a property of each item and its place so far, and of one more
pub each_more : {X : Type 0} (P : ℕ → X → Type 0) (xs : List X) (i : ℕ) (x : X) → At xs i x → ((k : ℕ) (y : X) → k < i → At xs k y → P k y) → P i x → (k : ℕ) (y : X) → k < i + 1 → At xs k y → P k y
each_more P xs i x at before now k y lt at' = elim (cases_eq k i) [
  | inl e ↦ subst (λ n. P n y) (sym e) (subst (P i) (same_Some x y (sym at ∙ ap (slice_get xs) (sym e) ∙ at')) now)
  | inr ne ↦ before k y (omega arith) at'
]
