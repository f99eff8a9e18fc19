-- A loop over a list of bits, some at a time.
use Rattle.std.proofs.Common.{◌≡◌, ℕ, ◌+◌, ◌-◌, ◌^◌, ◌<◌, ◌≤◌, Bool, List, ◌++◌, length, take, drop, sym, ap, ap₂, ◌∙◌, arith, append_assoc, length-drop, length-take-le, eqb}
use Rattle.std.specs.Prelude.{IsTrue}
use Rattle.std.proofs.Math.Seq.{take-add}
use Rattle.std.proofs.lemmas.Bool.{eqb-true, eq-eqb}
use Rattle.std.proofs.lemmas.List.{take_all}
use Rattle.etcs_bits.specs.bits.Number.{num_of_bits, num}
use Rattle.etcs_bits.proofs.NumberLemmas.{num_of_bits-lt, num-num_of_bits, same_from_num}

-- the next w bits, and their number
module _ (xs : List Bool) (at w : ℕ) (within : at + w ≤ length xs) where
  pub length-next : length (take w (drop at xs)) ≡ w
  length-next = length-take-le w (drop at xs) (rw length-drop (omega arith))

  pub next-lt : num_of_bits (take w (drop at xs)) < 2 ^ w
  next-lt = let h = num_of_bits-lt (take w (drop at xs)) in rw length-next at h

  pub num_of_next : num w (num_of_bits (take w (drop at xs))) ≡ take w (drop at xs)
  num_of_next = ap (λ k. num k (num_of_bits (take w (drop at xs)))) (sym length-next) ∙ num-num_of_bits (take w (drop at xs))

  pub next_copied : take at xs ++ num w (num_of_bits (take w (drop at xs))) ≡ take (at + w) xs
  next_copied = ap (λ ys. take at xs ++ ys) num_of_next ∙ sym (take-add at w xs)

-- the next w bits, appended as a number after those before them
pub more_pushed : (old mid new xs : List Bool) (at w n : ℕ) → at + w ≤ length xs → mid ≡ old ++ take at xs
    → n ≡ num_of_bits (take w (drop at xs)) → new ≡ mid ++ num w n → new ≡ old ++ take (at + w) xs
more_pushed old mid new xs at w n within so_far is e =
    e ∙ ap₂ (λ ys m. ys ++ num w m) so_far is ∙ append_assoc old (take at xs) (num w (num_of_bits (take w (drop at xs))))
    ∙ ap (λ ys. old ++ ys) (next_copied xs at w within)

pub next_same : (xs ys : List Bool) (at w : ℕ) → at + w ≤ length xs → length xs ≡ length ys → take at xs ≡ take at ys
    → num_of_bits (take w (drop at xs)) ≡ num_of_bits (take w (drop at ys)) → take (at + w) xs ≡ take (at + w) ys
next_same xs ys at w within l front e =
    let a = length-next xs at w within in
    let b : length (take w (drop at ys)) ≡ w = length-next ys at w (omega arith) in
    take-add at w xs ∙ ap₂ ◌++◌ front (same_from_num (take w (drop at xs)) (take w (drop at ys)) (a ∙ sym b) e) ∙ sym (take-add at w ys)

-- the last of them decide
pub rest_decides : (xs ys : List Bool) (at len m n : ℕ) → len ≡ length xs → len ≡ length ys → at ≤ len → take at xs ≡ take at ys
    → m ≡ num_of_bits (take (len - at) (drop at xs)) → n ≡ num_of_bits (take (len - at) (drop at ys))
    → (IsTrue (eqb m n) → xs ≡ ys) × (xs ≡ ys → IsTrue (eqb m n))
rest_decides xs ys at len m n lx ly within front mx ny =
    let whole : at + (len - at) ≡ len = omega arith in (
      (λ t. sym (take_all (at + (len - at)) xs (omega arith))
          ∙ next_same xs ys at (len - at) (omega arith) (omega arith) front (sym mx ∙ eqb-true m n t ∙ ny)
          ∙ take_all (at + (len - at)) ys (omega arith)),
      (λ e. eq-eqb m n (mx ∙ ap (λ zs. num_of_bits (take (len - at) (drop at zs))) e ∙ sym ny)),
    )
