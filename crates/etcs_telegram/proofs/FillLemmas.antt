-- Ones appended to bits.
use Rattle.std.proofs.Common.{◌≡◌, ℕ, zero, suc, ◌+◌, ◌-◌, ◌*◌, ◌^◌, ◌≤◌, Bool, true, List, ◌∷◌, ◌++◌, length, replicate, refl, sym, ap, ◌∙◌, append_assoc, length-append, arith, mod-eq_of_lt}
use Rattle.std.proofs.lemmas.Nat.{pow-add, pow_pos}
use Rattle.etcs_bits.specs.bits.Number.{num, num_of_bits}
use Rattle.etcs_bits.proofs.NumberLemmas.{length-num, num_of_bits-num, num_of_bits-cons, same_from_num}

pub length-ones : (w : ℕ) → length (replicate w true) ≡ w
length-ones zero = refl
length-ones (suc w) = ap suc (length-ones w)

twice : (w : ℕ) → 2 ^ suc w ≡ 2 * 2 ^ w
twice w = let e : suc w ≡ 1 + w = omega arith in ap (λ j. 2 ^ j) e ∙ pow-add 2 1 w

num_of_ones : (w : ℕ) → num_of_bits (replicate w true) + 1 ≡ 2 ^ w
num_of_ones zero = unfold num_of_bits in refl
num_of_ones (suc w) =
    let h = num_of_ones w in
    let e : num_of_bits (replicate (suc w) true) ≡ 1 * 2 ^ length (replicate w true) + num_of_bits (replicate w true) = num_of_bits-cons true (replicate w true) in
    let l : 2 ^ length (replicate w true) ≡ 2 ^ w = ap (λ j. 2 ^ j) (length-ones w) in
    let t = twice w in
    omega arith

-- the greatest number of w bits is w ones
pub ones_are : (w : ℕ) → num w (2 ^ w - 1) ≡ replicate w true
ones_are w =
    let h = num_of_ones w in
    let p = pow_pos w in
    same_from_num (num w (2 ^ w - 1)) (replicate w true) (length-num w (2 ^ w - 1) ∙ sym (length-ones w))
    (num_of_bits-num w (2 ^ w - 1) ∙ mod-eq_of_lt (omega arith) ∙ omega arith)

replicate-add : (a b : ℕ) → replicate (a + b) true ≡ replicate a true ++ replicate b true
replicate-add zero b = ap (λ n. replicate n true) (omega arith)
replicate-add (suc a) b = let e : suc a + b ≡ suc (a + b) = omega arith in ap (λ n. replicate n true) e ∙ ap (λ xs. true ∷ xs) (replicate-add a b)

-- `w` more ones
pub more_ones : (old mid new : List Bool) (w : ℕ) → length old ≤ length mid → mid ≡ old ++ replicate (length mid - length old) true → new ≡ mid ++ replicate w true
    → new ≡ old ++ replicate (length new - length old) true
more_ones old mid new w le so_far more =
    let k = length mid - length old in
    let l : length new ≡ length mid + w = ap length more ∙ length-append mid (replicate w true) ∙ ap (λ n. length mid + n) (length-ones w) in
    let e : length new - length old ≡ k + w = omega arith in
    more ∙ ap (λ xs. xs ++ replicate w true) so_far ∙ append_assoc old (replicate k true) (replicate w true)
    ∙ ap (λ xs. old ++ xs) (sym (ap (λ n. replicate n true) e ∙ replicate-add k w))

-- the number of bits after that
pub grown : (mid new : List Bool) (w : ℕ) → new ≡ mid ++ replicate w true → length new ≡ length mid + w
grown mid new w more = ap length more ∙ length-append mid (replicate w true) ∙ ap (λ n. length mid + n) (length-ones w)
