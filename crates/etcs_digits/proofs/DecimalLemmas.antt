-- The table of digits, and numbers that are written after it.
use Rattle.std.proofs.Common.{◌≡◌, ℕ, ◌+◌, ◌/◌, ◌%◌, ◌<◌, ◌≤◌, ◌^◌, Bool, true, false, cond, nat_lt, List, [], ◌∷◌, ◌++◌, slice_index, take, append_assoc, arith, refl, subst, sym}
use Rattle.std.proofs.lemmas.Bool.{ltb-false, ltb-true}
use Rattle.std.proofs.lemmas.Fmt.{decimal_digit, decimal_step}
use Rattle.std.specs.Fmt.{decimal}
use Rattle.json.specs.Filled.{Placed}

-- the row of a number, by its digits
abbrev pub row_by : ℕ → List ℕ
row_by n = cond (nat_lt n 10) ((48 + n) ∷ 0 ∷ 0 ∷ 1 ∷ [])
    (cond (nat_lt n 100) ((48 + n / 10) ∷ (48 + n % 10) ∷ 0 ∷ 2 ∷ [])
    ((48 + n / 100) ∷ (48 + n / 10 % 10) ∷ (48 + n % 10) ∷ 3 ∷ []))

pub one_digit : (n : ℕ) → n < 10 → (48 + n) ∷ [] ≡ decimal n
one_digit n lt = sym (decimal_digit n lt)

-- a digit more
more : (n : ℕ) (front : List ℕ) → 10 ≤ n → n < 2 ^ 64 → front ≡ decimal (n / 10) → front ++ ((48 + n % 10) ∷ []) ≡ decimal n
more n front lo hi is = sym (rw (decimal_step n lo hi, is) refl)

two_digits : (n : ℕ) → 10 ≤ n → n < 100 → (48 + n / 10) ∷ (48 + n % 10) ∷ [] ≡ decimal n
two_digits n lo hi = more n ((48 + n / 10) ∷ []) lo (omega arith) (one_digit (n / 10) (omega arith))

three_digits : (n : ℕ) → 100 ≤ n → n < 1000 → (48 + n / 100) ∷ (48 + n / 10 % 10) ∷ (48 + n % 10) ∷ [] ≡ decimal n
three_digits n lo hi =
    let far : n / 100 ≡ n / 10 / 10 = omega arith in
    more n ((48 + n / 100) ∷ (48 + n / 10 % 10) ∷ []) (omega arith) (omega arith)
    (rw far (two_digits (n / 10) (omega arith) (omega arith)))

-- three digits more
pub three_more : (n : ℕ) → 1000 ≤ n → n < 2 ^ 64 → decimal (n / 1000) ++ ((48 + n / 100 % 10) ∷ (48 + n / 10 % 10) ∷ (48 + n % 10) ∷ []) ≡ decimal n
three_more n lo hi =
    let a : n / 10 / 10 / 10 ≡ n / 1000 = omega arith in
    let b : n / 10 / 10 % 10 ≡ n / 100 % 10 = omega arith in
    sym (rw (
      decimal_step n (omega arith) hi,
      decimal_step (n / 10) (omega arith) (omega arith),
      decimal_step (n / 10 / 10) (omega arith) (omega arith),
      append_assoc,
      append_assoc,
      a,
      b,
    ) refl)

-- the row has the digits of a number, and counts them
abbrev pub HasDigits : ℕ → List ℕ → Type 0
HasDigits n r = (take (slice_index r 3) r ≡ decimal n) × (slice_index r 3 ≤ 3)

by_count : (n : ℕ) → n < 1000 → (a b : Bool) → (a ≡ true → n < 10) → (a ≡ false → 10 ≤ n) → (b ≡ true → n < 100) → (b ≡ false → 100 ≤ n)
    → HasDigits n (cond a ((48 + n) ∷ 0 ∷ 0 ∷ 1 ∷ []) (cond b ((48 + n / 10) ∷ (48 + n % 10) ∷ 0 ∷ 2 ∷ [])
    ((48 + n / 100) ∷ (48 + n / 10 % 10) ∷ (48 + n % 10) ∷ 3 ∷ [])))
by_count n lt true b one _ _ _ = (one_digit n (one refl), omega arith)
by_count n lt false true _ two few _ = (two_digits n (two refl) (few refl), omega arith)
by_count n lt false false _ _ _ three = (three_digits n (three refl) lt, omega arith)

pub row_by_has : (n : ℕ) → n < 1000 → HasDigits n (row_by n)
row_by_has n lt = by_count n lt (nat_lt n 10) (nat_lt n 100) (ltb-true n 10) (ltb-false n 10) (ltb-true n 100) (ltb-false n 100)

-- what is written is known by another name
pub placed_as : {a b xs ys : List ℕ} {i j : ℕ} → xs ≡ ys → Placed a b i xs j → Placed a b i ys j
placed_as {a} {b} {xs} {ys} {i} {j} same placed = subst (λ (zs : List ℕ). Placed a b i zs j) same placed
