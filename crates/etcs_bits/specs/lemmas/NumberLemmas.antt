-- Laws of numbers and their bits.
use Rattle.std.proofs.Common.{◌≡◌, ℕ, zero, suc, ◌+◌, ◌*◌, ◌/◌, ◌%◌, ◌^◌, ◌<◌, ◌≤◌, Bool, true, false, List, [], ◌∷◌, length, refl, sym, ap, ◌∙◌, arith, mod-eq_of_lt, eqb}
use Rattle.std.proofs.lemmas.Nat.{pow-add, mod-pow-add}
use Rattle.etcs_bits.specs.bits.Number.{worth, num_of_bits, num}

worth_times : (b : Bool) (n : ℕ) → worth b * n ≤ n
worth_times true n = omega arith
worth_times false n = omega arith

-- a digit is 0 or 1
pub worth_of_digit : (x : ℕ) → x < 2 → worth (eqb x 1) ≡ x
worth_of_digit zero h = refl
worth_of_digit (suc zero) h = refl
worth_of_digit (suc (suc x)) h = omega arith

-- ---- the number of a list of bits

pub num_of_bits-cons : (x : Bool) (xs : List Bool)
    → num_of_bits (x ∷ xs) ≡ worth x * 2 ^ length xs + num_of_bits xs
unfolding num_of_bits
num_of_bits-cons x xs = refl

num-suc : (w n : ℕ) → num (suc w) n ≡ eqb (n / 2 ^ w % 2) 1 ∷ num w n
unfolding num
num-suc w n = refl

suc_is : (k : ℕ) → suc k ≡ 1 + k
suc_is k = omega arith

twice : (k : ℕ) → 2 ^ suc k ≡ 2 * 2 ^ k
twice k = ap (λ j. 2 ^ j) (suc_is k) ∙ pow-add 2 1 k

pub num_of_bits-lt : (xs : List Bool) → num_of_bits xs < 2 ^ length xs
unfolding num_of_bits
num_of_bits-lt [] = omega arith
num_of_bits-lt (x ∷ xs) =
    let e : 2 ^ length (x ∷ xs) ≡ 2 * 2 ^ length xs = twice (length xs) in
    let h = num_of_bits-lt xs in
    let c : num_of_bits (x ∷ xs) ≡ worth x * 2 ^ length xs + num_of_bits xs = refl in
    let w : worth x * 2 ^ length xs ≤ 2 ^ length xs = worth_times x (2 ^ length xs) in
    omega arith

-- two lists of one length that spell one number are equal
pub same_from_num : (xs ys : List Bool) → length xs ≡ length ys → num_of_bits xs ≡ num_of_bits ys → xs ≡ ys
unfolding num_of_bits
same_from_num [] [] l e = refl
same_from_num [] (y ∷ ys) l e = cc
same_from_num (x ∷ xs) [] l e = cc
same_from_num (true ∷ xs) (true ∷ ys) l e =
    let m : length xs ≡ length ys = omega arith in
    let p = ap (λ k. 2 ^ k) m in
    ap (λ zs. true ∷ zs) (same_from_num xs ys m (omega arith))
same_from_num (false ∷ xs) (false ∷ ys) l e =
    let m : length xs ≡ length ys = omega arith in
    ap (λ zs. false ∷ zs) (same_from_num xs ys m (omega arith))
same_from_num (true ∷ xs) (false ∷ ys) l e =
    let m : length xs ≡ length ys = omega arith in
    let p = ap (λ k. 2 ^ k) m in
    let h = num_of_bits-lt ys in
    absurd (omega arith)
same_from_num (false ∷ xs) (true ∷ ys) l e =
    let m : length xs ≡ length ys = omega arith in
    let p = ap (λ k. 2 ^ k) m in
    let h = num_of_bits-lt xs in
    absurd (omega arith)

-- ---- the bits of a number

pub length-num : (w n : ℕ) → length (num w n) ≡ w
unfolding num
length-num zero n = refl
length-num (suc w) n = ap suc (length-num w n)

pub num_of_bits-num : (w n : ℕ) → num_of_bits (num w n) ≡ n % 2 ^ w
num_of_bits-num zero n = unfold num_of_bits num in omega arith
num_of_bits-num (suc w) n =
    let h = num_of_bits-num w n in
    let d = worth_of_digit (n / 2 ^ w % 2) (omega arith) in
    let e : n % 2 ^ (1 + w) ≡ (n / 2 ^ w % 2 ^ 1) * 2 ^ w + n % 2 ^ w = mod-pow-add n 1 w in
    ap num_of_bits (num-suc w n)
    ∙ rw (num_of_bits-cons, length-num, h, d) (sym (ap (λ j. n % 2 ^ j) (suc_is w) ∙ e))

-- a number that fits is spelled by its bits
pub num_of_bits-small : (w n : ℕ) → n < 2 ^ w → num_of_bits (num w n) ≡ n
num_of_bits-small w n small = num_of_bits-num w n ∙ mod-eq_of_lt small

-- bits are the bits of the number that they spell
pub num-num_of_bits : (xs : List Bool) → num (length xs) (num_of_bits xs) ≡ xs
num-num_of_bits xs =
    same_from_num _ xs (length-num _ _)
    (num_of_bits-num (length xs) (num_of_bits xs) ∙ mod-eq_of_lt (num_of_bits-lt xs))
