-- Places of a list, tests of the elements there, and the least number that passes.
use Rattle.std.proofs.Common.{◌≡◌, ℕ, zero, suc, ◌+◌, ◌-◌, ◌<◌, ◌≤◌, Bool, true, false, cond, List, [], ◌∷◌, length, get_or, slice_get, reverse, take, Option, Some, None, refl, sym, ap, ◌∙◌, arith, add-one}
use Rattle.std.specs.List.{list_any, find, range_with_len}
use Rattle.std.specs.Option.{option_map_or}
use Rattle.std.proofs.lemmas.Option.{slice_get_within, none-some, same_Some, slice_get-get_or, get_or_from_slice_get}
use Rattle.std.proofs.lemmas.List.{get_or-reverse, length-reverse}
use Rattle.std.proofs.lemmas.Bool.{or_left, or_right, or_cases, cases_order}
use mathlib.Core.Logic.{inl, inr}
use Rattle.etcs_group.specs.Places.{At, element_passes, least}

-- ---- places

pub some_at : {X : Type 0} (xs : List X) (i : ℕ) → i < length xs → (x : X) × At xs i x
some_at [] i h = absurd (omega arith)
some_at (x ∷ xs) zero h = (x, refl)
some_at (x ∷ xs) (suc i) h = some_at xs i (omega arith)

-- there is one element at a place
pub one_at : {X : Type 0} (xs : List X) (i : ℕ) (x y : X) → At xs i x → At xs i y → x ≡ y
one_at xs i x y a b = same_Some x y (sym a ∙ b)

pub At-reverse : {X : Type 0} (xs : List X) (i : ℕ) (x : X) → At (reverse xs) i x → (j : ℕ) × At xs j x × (i + j + 1 ≡ length xs)
At-reverse xs i x h =
    let within : i < length (reverse xs) = slice_get_within (reverse xs) i x h in
    let same = length-reverse xs in
    let lt : i < length xs = omega arith in
    let j : ℕ = length xs - 1 - i in
    let lt' : j < length xs = omega arith in
    let e : get_or xs j x ≡ x = sym (get_or-reverse xs i x lt) ∙ get_or_from_slice_get (reverse xs) i x x h in
    (j, slice_get-get_or xs j x lt' ∙ ap Some e, omega arith)

-- ---- tests of an element, and of members

-- the element there decides
pub element_passes-at : {X : Type 0} (xs : List X) (i : ℕ) (test : X → Bool) (x : X) → At xs i x → element_passes xs i test ≡ test x
element_passes-at xs i test x at = ap (λ o. option_map_or test o false) at

pub element_passes-none : {X : Type 0} (xs : List X) (i : ℕ) (test : X → Bool) → ((x : X) → At xs i x → test x ≡ false) → element_passes xs i test ≡ false
element_passes-none {X} xs i test h = go (slice_get xs i) refl
  where
    go : (o : Option X) → slice_get xs i ≡ o → option_map_or test o false ≡ false
    go None e = refl
    go (Some x) e = h x e

pub at_list_any : {X : Type 0} (p : X → Bool) (xs : List X) (i : ℕ) (x : X) → At xs i x → p x ≡ true → list_any p xs ≡ true
at_list_any p [] i x h e = absurd (none-some x h)
at_list_any p (y ∷ xs) zero x h e = or_left (p y) (list_any p xs) (ap p (same_Some y x h) ∙ e)
at_list_any p (y ∷ xs) (suc i) x h e = or_right (p y) (list_any p xs) (at_list_any p xs i x h e)

pub list_any-at : {X : Type 0} (p : X → Bool) (xs : List X) → list_any p xs ≡ true → (i : ℕ) × (x : X) × At xs i x × (p x ≡ true)
list_any-at p [] h = cc
list_any-at p (y ∷ xs) h = elim (or_cases (p y) (list_any p xs) h) [
  | inl e ↦ (0, y, refl, e)
  | inr e ↦ let r = list_any-at p xs e in (suc r.0, r.1, r.2, r.3)
]

pub list_any-none : {X : Type 0} (p : X → Bool) (xs : List X) → ((i : ℕ) (x : X) → At xs i x → p x ≡ false) → list_any p xs ≡ false
list_any-none p [] h = refl
list_any-none p (y ∷ xs) h = rw (h 0 y refl, list_any-none p xs (λ i x e. h (suc i) x e)) refl

pub At-take : {X : Type 0} (n : ℕ) (xs : List X) (i : ℕ) (x : X) → At (take n xs) i x → (i < n) × At xs i x
At-take zero xs i x h = absurd (none-some x h)
At-take (suc n) [] i x h = absurd (none-some x h)
At-take (suc n) (y ∷ xs) zero x h = (omega arith, h)
At-take (suc n) (y ∷ xs) (suc i) x h = let r = At-take n xs i x h in let lt = r.0 in (omega arith, r.1)

pub at_take : {X : Type 0} (n : ℕ) (xs : List X) (i : ℕ) (x : X) → i < n → At xs i x → At (take n xs) i x
at_take n [] i x lt h = absurd (none-some x h)
at_take zero (y ∷ xs) i x lt h = absurd (omega arith)
at_take (suc n) (y ∷ xs) zero x lt h = h
at_take (suc n) (y ∷ xs) (suc i) x lt h = at_take n xs i x (omega arith) h

-- ---- the least number that passes

-- the least of the n numbers from `from` on
abbrev least_from : ℕ → ℕ → (ℕ → Bool) → Option ℕ
least_from from zero test = None
least_from from (suc n) test = cond (test from) (Some from) (least_from (suc from) n test)

find-least_from : (from n : ℕ) (test : ℕ → Bool) → find test (range_with_len from n) ≡ least_from from n test
find-least_from from zero test = refl
find-least_from from (suc n) test =
    ap (λ k. cond (test from) (Some from) (find test (range_with_len k n))) (add-one from)
    ∙ ap (cond (test from) (Some from)) (find-least_from (suc from) n test)

least_from-none : (from n : ℕ) (test : ℕ → Bool) → ((k : ℕ) → from ≤ k → k < from + n → test k ≡ false) → least_from from n test ≡ None
least_from-none from zero test h = refl
least_from-none from (suc n) test h = rw (h from (omega arith) (omega arith)) (least_from-none (suc from) n test (λ k a b. h k (omega arith) (omega arith)))

pub least-none : (n : ℕ) (test : ℕ → Bool) → ((k : ℕ) → k < n → test k ≡ false) → least n test ≡ None
least-none n test h = find-least_from 0 n test ∙ least_from-none 0 n test (λ k a b. h k (omega arith))

least_from-at : (from n k : ℕ) (test : ℕ → Bool) → from ≤ k → k < from + n → test k ≡ true → ((j : ℕ) → from ≤ j → j < k → test j ≡ false) → least_from from n test ≡ Some k
least_from-at from zero k test a b met unmet = absurd (omega arith)
least_from-at from (suc n) k test a b met unmet = elim (cases_order from k) [
  | inl e ↦ rw (ap test e ∙ met) (ap Some e)
  | inr o ↦ elim o [
    | inl lt ↦ rw (unmet from (omega arith) lt) (least_from-at (suc from) n k test lt (omega arith) met (λ j c d. unmet j (omega arith) d))
    | inr gt ↦ absurd (omega arith)
  ]
]

pub least-at : (n k : ℕ) (test : ℕ → Bool) → k < n → test k ≡ true → ((j : ℕ) → j < k → test j ≡ false) → least n test ≡ Some k
least-at n k test lt met unmet = find-least_from 0 n test ∙ least_from-at 0 n k test (omega arith) (omega arith) met (λ j a b. unmet j b)

-- what a result shows
least_from-some : (from n k : ℕ) (test : ℕ → Bool) → least_from from n test ≡ Some k → (from ≤ k) × (k < from + n) × (test k ≡ true) × ((j : ℕ) → from ≤ j → j < k → test j ≡ false)
least_from-some from zero k test h = absurd (none-some k h)
least_from-some from (suc n) k test h = go (λ g. least_from-some (suc from) n k test g) (test from) refl h
  where
    later : test from ≡ false → (suc from ≤ k) × (k < suc from + n) × (test k ≡ true) × ((j : ℕ) → suc from ≤ j → j < k → test j ≡ false) → (from ≤ k) × (k < from + suc n) × (test k ≡ true) × ((j : ℕ) → from ≤ j → j < k → test j ≡ false)
    later e r = let a = r.0 in let b = r.1 in (
      omega arith,
      omega arith,
      r.2,
      λ j c d. elim (cases_order from j) [
        | inl s ↦ ap test (sym s) ∙ e
        | inr o ↦ elim o [ inl lt ↦ r.3 j lt d | inr gt ↦ absurd (omega arith) ]
      ],
    )

    here : from ≡ k → test from ≡ true → (from ≤ k) × (k < from + suc n) × (test k ≡ true) × ((j : ℕ) → from ≤ j → j < k → test j ≡ false)
    here s e = (omega arith, omega arith, ap test (sym s) ∙ e, λ j c d. absurd (omega arith))

    go : (least_from (suc from) n test ≡ Some k → (suc from ≤ k) × (k < suc from + n) × (test k ≡ true) × ((j : ℕ) → suc from ≤ j → j < k → test j ≡ false)) → (t : Bool) → test from ≡ t → cond t (Some from) (least_from (suc from) n test) ≡ Some k → (from ≤ k) × (k < from + suc n) × (test k ≡ true) × ((j : ℕ) → from ≤ j → j < k → test j ≡ false)
    go ih true e g = here (same_Some from k g) e
    go ih false e g = later e (ih g)

pub least-some : (n k : ℕ) (test : ℕ → Bool) → least n test ≡ Some k → (k < n) × (test k ≡ true) × ((j : ℕ) → j < k → test j ≡ false)
least-some n k test h = let r = least_from-some 0 n k test (sym (find-least_from 0 n test) ∙ h) in let lt = r.1 in (omega arith, r.2, λ j d. r.3 j (omega arith) d)

least_from-none_says : (from n : ℕ) (test : ℕ → Bool) → least_from from n test ≡ None → (k : ℕ) → from ≤ k → k < from + n → test k ≡ false
least_from-none_says from zero test h k a b = absurd (omega arith)
least_from-none_says from (suc n) test h k a b = go (λ g lt. least_from-none_says (suc from) n test g k lt (omega arith)) (test from) refl h
  where
    go : (least_from (suc from) n test ≡ None → suc from ≤ k → test k ≡ false) → (t : Bool) → test from ≡ t → cond t (Some from) (least_from (suc from) n test) ≡ None → test k ≡ false
    go ih true e g = cc
    go ih false e g = elim (cases_order from k) [
      | inl s ↦ ap test (sym s) ∙ e
      | inr o ↦ elim o [ inl lt ↦ ih g lt | inr gt ↦ absurd (omega arith) ]
    ]

pub least-none_says : (n : ℕ) (test : ℕ → Bool) → least n test ≡ None → (k : ℕ) → k < n → test k ≡ false
least-none_says n test h k lt = least_from-none_says 0 n test (sym (find-least_from 0 n test) ∙ h) k (omega arith) (omega arith)
