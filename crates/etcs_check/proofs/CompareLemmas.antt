-- Comparing in place the elements of two lists that pass a test.
use Rattle.std.proofs.Common.{◌≡◌, ◌≢◌, ℕ, ◌+◌, ◌<◌, ◌≤◌, Bool, true, false, cond, ◌&&◌, eqb, List, [], ◌∷◌, length, drop, sym, ap, ◌∙◌, refl, arith}
use Rattle.std.specs.List.{filter}
use Rattle.std.specs.Cmp.Lexicographic.{pointwise}
use Rattle.std.proofs.lemmas.List.{drop_all}
use Rattle.std.proofs.lemmas.Bool.{cases_lt, eq-eqb, ne_eqb, and_left, and_right, and_from}
use mathlib.Core.Logic.{inl, inr}
use Rattle.etcs_group.specs.Places.{At}
use Rattle.etcs_group.proofs.PlaceLemmas.{some_at}
use Rattle.etcs_check.proofs.NoteLemmas.{drop_at}

module _ {X : Type 0} (same : X → X → Bool) (holds : X → Bool) where
  pub passes_here : (xs : List X) (i : ℕ) (x : X) → At xs i x → holds x ≡ true → filter holds (drop i xs) ≡ x ∷ filter holds (drop (i + 1) xs)
  passes_here xs i x at h = ap (filter holds) (drop_at xs i x at) ∙ ap (λ b. cond b (x ∷ filter holds (drop (i + 1) xs)) (filter holds (drop (i + 1) xs))) h

  pub passes_end : (xs : List X) (i : ℕ) → length xs ≤ i → filter holds (drop i xs) ≡ []
  passes_end xs i le = ap (filter holds) (drop_all i xs le)

  pub differ_here : (xs ys : List X) (i j : ℕ) (x y : X) → At xs i x → At ys j y → holds x ≡ true → holds y ≡ true → same x y ≡ false → pointwise same (filter holds (drop i xs)) (filter holds (drop j ys)) ≡ false
  differ_here xs ys i j x y at at' h k e = rw (passes_here xs i x at h, passes_here ys j y at' k) (and_left _ _ e)

  pub agree_here : (xs ys : List X) (i j : ℕ) (x y : X) → At xs i x → At ys j y → holds x ≡ true → holds y ≡ true → same x y ≡ true → pointwise same (filter holds (drop i xs)) (filter holds (drop j ys)) ≡ pointwise same (filter holds (drop (i + 1) xs)) (filter holds (drop (j + 1) ys))
  agree_here xs ys i j x y at at' h k e = rw (passes_here xs i x at h, passes_here ys j y at' k, e) refl

  -- if one list is at its end
  pub same_at_end : (xs ys : List X) (i j : ℕ) → i ≤ length xs → j ≤ length ys → ((x : X) → At xs i x → holds x ≡ true) → ((y : X) → At ys j y → holds y ≡ true) → (i < length xs → length ys ≤ j) → pointwise same (filter holds (drop i xs)) (filter holds (drop j ys)) ≡ (eqb i (length xs) && eqb j (length ys))
  same_at_end xs ys i j le le' h k ended = elim (cases_lt i (length xs)) [
    | inl lt ↦
        let x = some_at xs i lt in
        let e : length ys ≤ j = ended lt in
        let n : i ≢ length xs = omega arith in
        rw (passes_here xs i x.0 x.1 (h x.0 x.1), passes_end ys j e) (sym (and_left _ _ (ne_eqb i (length xs) n)))
    | inr ge ↦ elim (cases_lt j (length ys)) [
      | inl lt ↦
          let y = some_at ys j lt in
          let n : j ≢ length ys = omega arith in
          rw (passes_end xs i ge, passes_here ys j y.0 y.1 (k y.0 y.1)) (sym (and_right (eqb i (length xs)) _ (ne_eqb j (length ys) n)))
      | inr ge' ↦ rw (passes_end xs i ge, passes_end ys j ge') (sym (and_from _ _ (eq-eqb i (length xs) (omega arith)) (eq-eqb j (length ys) (omega arith))))
    ]
  ]
