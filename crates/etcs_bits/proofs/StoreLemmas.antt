-- What an append writes.
use Rattle.std.proofs.Common.{◌≡◌, ℕ, zero, suc, ◌+◌, ◌-◌, ◌*◌, ◌/◌, ◌%◌, ◌^◌, ◌<◌, ◌≤◌, List, [], ◌∷◌, ◌++◌, length, get_or, take, drop, refl, sym, ap, ap₂, ◌∙◌, arith, append_assoc, length-append, length-drop, length-take, bit_or, mod-eq_of_lt, add-zero, subst}
use Rattle.std.specs.Int.{byte_at, bytes_high_first}
use Rattle.std.proofs.lemmas.Nat.{pow-add, pow_pos, mod-pow-add, shr_high, mod_low, shl_whole, shl_below, or_shifted, shr_split, mod_below}
use Rattle.std.proofs.Math.Nat.{pow-suc, mul_comm, mul_assoc}
use Rattle.std.proofs.Math.Pow.{mod-mod-pow}
use Rattle.std.proofs.lemmas.List.{take_at, drop_more, drop_all, drop-drop, take-append-drop}
use Rattle.etcs_bits.specs.bits.Number.{num_of_bits, num, bits_of_bytes}
use Rattle.etcs_bits.proofs.NumberLemmas.{length-num, num_of_bits-num, num_of_bits-append, num_of_bits-drop, same_from_num, length-bits_of_bytes, bits_of_bytes-append, bits_of_bytes-cons, take-bits_of_bytes, drop-bits_of_bytes, bits_of_one}

-- a number's bits in two parts
pub num-cat : (a b x y : ℕ) → y < 2 ^ b → num (a + b) (x * 2 ^ b + y) ≡ num a x ++ num b y
num-cat a b x y h =
    let n = x * 2 ^ b + y in
    same_from_num (num (a + b) n) (num a x ++ num b y)
    (rw (length-append, length-num, length-num, length-num) refl)
    (num_of_bits-num (a + b) n ∙ mod-pow-add n a b ∙ ap₂ (λ i j. i % 2 ^ a * 2 ^ b + j) (shr_high x b y h) (mod_low x b y h)
    ∙ sym (num_of_bits-append (num a x) (num b y) ∙ rw (length-num, num_of_bits-num, num_of_bits-num) (ap (λ j. x % 2 ^ a * 2 ^ b + j) (mod-eq_of_lt h))))

pub num-cat_zeros : (a b x : ℕ) → num (a + b) (x * 2 ^ b) ≡ num a x ++ num b 0
num-cat_zeros a b x = ap (num (a + b)) (omega arith) ∙ num-cat a b x 0 (pow_pos b)

pub zeros-cat : (a b : ℕ) → num (a + b) 0 ≡ num a 0 ++ num b 0
zeros-cat a b = ap (num (a + b)) (omega arith) ∙ num-cat_zeros a b 0

-- ---- bytes of a number

pow_of_bytes : (k : ℕ) → 256 ^ k ≡ 2 ^ (8 * k)
pow_of_bytes zero = refl
pow_of_bytes (suc k) =
    let e : 256 ^ suc k ≡ 256 * 256 ^ k = pow-suc 256 k ∙ mul_comm (256 ^ k) 256 in
    let f : 8 * suc k ≡ 8 + 8 * k = omega arith in
    e ∙ ap (λ n. 256 * n) (pow_of_bytes k) ∙ sym (ap (λ j. 2 ^ j) f ∙ pow-add 2 8 (8 * k))

byte_is : (k n : ℕ) → byte_at k n ≡ n / 2 ^ (8 * k) % 2 ^ 8
byte_is zero n = omega arith
byte_is (suc k) n = ap (λ m. n / m % 256) (pow_of_bytes (suc k))

pub bits_of_high_bytes : (k n : ℕ) → bits_of_bytes (bytes_high_first k n) ≡ num (8 * k) n
bits_of_high_bytes zero n = unfold bits_of_bytes num in refl
bits_of_high_bytes (suc k) n =
    let h = bits_of_high_bytes k n in
    let e : 8 * suc k ≡ 8 + 8 * k = omega arith in
    let b : byte_at k n % 2 ^ 8 ≡ n / 2 ^ (8 * k) % 2 ^ 8 = ap (λ m. m % 2 ^ 8) (byte_is k n) ∙ mod-eq_of_lt (omega arith) in
    bits_of_bytes-cons (byte_at k n) (bytes_high_first k n)
    ∙ ap (λ ys. num 8 (byte_at k n) ++ ys) h
    ∙ sym (ap (λ j. num j n) e ∙ same_from_num (num (8 + 8 * k) n) (num 8 (byte_at k n) ++ num (8 * k) n)
    (rw (length-append, length-num, length-num, length-num) refl)
    (num_of_bits-num (8 + 8 * k) n ∙ mod-pow-add n 8 (8 * k)
    ∙ sym (num_of_bits-append (num 8 (byte_at k n)) (num (8 * k) n) ∙ rw (length-num, num_of_bits-num, num_of_bits-num, b) refl)))

-- the first m of the eight bytes of a word that has u bits of x, w bits of n and zeros
block_is : (x n u w j r m word : ℕ) → n < 2 ^ w → u + w + j ≡ 8 * m → u + w + (j + r) ≡ 64 → word ≡ x * 2 ^ (w + (j + r)) + n * 2 ^ (j + r)
    → bits_of_bytes (take m (bytes_high_first 8 word)) ≡ (num u x ++ num w n) ++ num j 0
block_is x n u w j r m word fits e whole is =
    let k = j + r in
    let below : n * 2 ^ k < 2 ^ (w + k) = shl_below n w k fits in
    let a : num 64 word ≡ num u x ++ (num w n ++ num k 0) =
    ap₂ num (omega arith) is ∙ num-cat u (w + k) x (n * 2 ^ k) below ∙ ap (λ ys. num u x ++ ys) (num-cat_zeros w k n) in
    let b : num u x ++ (num w n ++ num k 0) ≡ ((num u x ++ num w n) ++ num j 0) ++ num r 0 =
    rw (zeros-cat j r) (sym (append_assoc (num u x ++ num w n) (num j 0) (num r 0) ∙ append_assoc (num u x) (num w n) (num j 0 ++ num r 0))) in
    sym (take-bits_of_bytes m (bytes_high_first 8 word))
    ∙ ap (take (8 * m)) (bits_of_high_bytes 8 word ∙ a ∙ b)
    ∙ take_at ((num u x ++ num w n) ++ num j 0) (num r 0) (8 * m) (rw (length-append, length-append, length-num, length-num, length-num) e)

no_more : (a b : ℕ) → b ≡ 0 * a + b
no_more a b = omega arith

-- behind whole bytes
pub appended_whole : (bs : List ℕ) (w n m : ℕ) → 1 ≤ w → w ≤ 32 → n < 2 ^ w → m ≡ (w + 7) / 8
    → bits_of_bytes (bs ++ take m (bytes_high_first 8 (n * 2 ^ (64 - w) % 2 ^ 64))) ≡ (bits_of_bytes bs ++ num w n) ++ num (8 * m - w) 0
appended_whole bs w n m low high fits count =
    let j = 8 * m - w in
    let r = 64 - 8 * m in
    let k : 64 - w ≡ j + r = omega arith in
    let e : n * 2 ^ (64 - w) % 2 ^ 64 ≡ 0 * 2 ^ (w + (j + r)) + n * 2 ^ (j + r) =
    shl_whole n w (64 - w) 64 fits (omega arith) ∙ ap (λ i. n * 2 ^ i) k ∙ no_more (2 ^ (w + (j + r))) (n * 2 ^ (j + r)) in
    let b : bits_of_bytes (take m (bytes_high_first 8 (n * 2 ^ (64 - w) % 2 ^ 64))) ≡ num w n ++ num j 0 =
    block_is 0 n 0 w j r m _ fits (omega arith) (omega arith) e ∙ unfold num in refl in
    bits_of_bytes-append bs _ ∙ ap (λ ys. bits_of_bytes bs ++ ys) b ∙ sym (append_assoc (bits_of_bytes bs) (num w n) (num j 0))

-- ---- behind a part of the last byte

eight_less : (u : ℕ) → u ≤ 7 → 8 - u + 56 ≡ 64 - u
eight_less u h = omega arith

below_word : (n w k u : ℕ) → n < 2 ^ w → w + k ≡ 64 - u → n * 2 ^ k < 2 ^ (64 - u)
below_word n w k u h e = subst (λ (i : ℕ). n * 2 ^ k < 2 ^ i) e (shl_below n w k h)

byte_mod : (b u p : ℕ) → u + p ≡ 8 → b % 2 ^ 8 % 2 ^ p ≡ b % 2 ^ p
byte_mod b u p e = ap (λ i. b % 2 ^ i % 2 ^ p) (sym e) ∙ mod-mod-pow b u p

-- the bits up to the first u of byte q
pub front_is : (bs : List ℕ) (q u x : ℕ) → q < length bs → u ≤ 8 → get_or bs q 0 / 2 ^ (8 - u) ≡ x
    → take (8 * q + u) (bits_of_bytes bs) ≡ bits_of_bytes (take q bs) ++ num u x
front_is bs q u x within small is =
    let b = get_or bs q 0 in
    let p = 8 - u in
    let rest = bits_of_bytes (drop (q + 1) bs) in
    let low : b % 2 ^ p < 2 ^ p = mod_below b (2 ^ p) (pow_pos p) in
    let split : bs ≡ take q bs ++ b ∷ drop (q + 1) bs = sym (take-append-drop q bs) ∙ ap (λ ys. take q bs ++ ys) (drop_more bs q 0 within) in
    let byte : num 8 b ≡ num u x ++ num p (b % 2 ^ p) =
    ap₂ num (omega arith) (sym (shr_split b p) ∙ ap (λ n. n * 2 ^ p + b % 2 ^ p) is) ∙ num-cat u p x (b % 2 ^ p) low in
    let e : bits_of_bytes bs ≡ (bits_of_bytes (take q bs) ++ num u x) ++ (num p (b % 2 ^ p) ++ rest) =
    ap bits_of_bytes split ∙ bits_of_bytes-append (take q bs) (b ∷ drop (q + 1) bs)
    ∙ ap (λ ys. bits_of_bytes (take q bs) ++ ys) (bits_of_bytes-cons b (drop (q + 1) bs) ∙ ap (λ ys. ys ++ rest) byte ∙ append_assoc (num u x) (num p (b % 2 ^ p)) rest)
    ∙ sym (append_assoc (bits_of_bytes (take q bs)) (num u x) (num p (b % 2 ^ p) ++ rest)) in
    ap (take (8 * q + u)) e
    ∙ take_at (bits_of_bytes (take q bs) ++ num u x) (num p (b % 2 ^ p) ++ rest) (8 * q + u)
    (rw (length-append, length-num, length-bits_of_bytes, length-take) (omega arith))

-- the last byte's spare bits, as a number
pub spare_is : (bs : List ℕ) (q u : ℕ) → q + 1 ≡ length bs → u ≤ 8 → num_of_bits (drop (8 * q + u) (bits_of_bytes bs)) ≡ get_or bs q 0 % 2 ^ (8 - u)
spare_is bs q u last small =
    let b = get_or bs q 0 in
    let p = 8 - u in
    let one : drop q bs ≡ b ∷ [] = drop_more bs q 0 (omega arith) ∙ ap (λ ys. b ∷ ys) (drop_all (q + 1) bs (omega arith)) in
    let l : length (drop u (num 8 b)) ≡ p = rw (length-drop, length-num) refl in
    ap num_of_bits (sym (drop-drop u (8 * q) (bits_of_bytes bs)) ∙ ap (drop u) (drop-bits_of_bytes q bs ∙ ap bits_of_bytes one ∙ bits_of_one b))
    ∙ num_of_bits-drop u (num 8 b)
    ∙ ap₂ (λ n i. n % 2 ^ i) (num_of_bits-num 8 b) l
    ∙ byte_mod b u p (omega arith)

module _ (bs : List ℕ) (q u w n m : ℕ) (last : q + 1 ≡ length bs) (positive : 1 ≤ u) (part : u ≤ 7) (low : 1 ≤ w) (high : w ≤ 32) (fits : n < 2 ^ w)
    (byte : get_or bs q 0 < 256) (zeros : get_or bs q 0 % 2 ^ (8 - u) ≡ 0) (count : m ≡ (u + w + 7) / 8) where
  -- the word that is written from byte q on
  word_is : bit_or (get_or bs q 0 * 2 ^ 56 % 2 ^ 64) (n * 2 ^ (64 - w - u) % 2 ^ 64) ≡ get_or bs q 0 / 2 ^ (8 - u) * 2 ^ (64 - u) + n * 2 ^ (64 - w - u)
  word_is =
      let b = get_or bs q 0 in
      let x = b / 2 ^ (8 - u) in
      let k = 64 - w - u in
      let whole : b ≡ x * 2 ^ (8 - u) = sym (shr_split b (8 - u)) ∙ ap (λ j. x * 2 ^ (8 - u) + j) zeros ∙ add-zero (x * 2 ^ (8 - u)) in
      let left : b * 2 ^ 56 % 2 ^ 64 ≡ x * 2 ^ (64 - u) =
      shl_whole b 8 56 64 byte (omega arith) ∙ ap (λ i. i * 2 ^ 56) whole ∙ mul_assoc x (2 ^ (8 - u)) (2 ^ 56)
      ∙ ap (λ i. x * i) (sym (pow-add 2 (8 - u) 56) ∙ ap (λ i. 2 ^ i) (eight_less u part)) in
      let right : n * 2 ^ k % 2 ^ 64 ≡ n * 2 ^ k = shl_whole n w k 64 fits (omega arith) in
      let below : n * 2 ^ k < 2 ^ (64 - u) = below_word n w k u fits (omega arith) in
      ap₂ bit_or left right ∙ or_shifted x (64 - u) (n * 2 ^ k) below

  pub appended_within : (word : ℕ) → word ≡ bit_or (get_or bs q 0 * 2 ^ 56 % 2 ^ 64) (n * 2 ^ (64 - w - u) % 2 ^ 64)
      → bits_of_bytes (take q bs ++ take m (bytes_high_first 8 word)) ≡ (take (8 * q + u) (bits_of_bytes bs) ++ num w n) ++ num (8 * m - u - w) 0
  appended_within word is =
      let x = get_or bs q 0 / 2 ^ (8 - u) in
      let j = 8 * m - u - w in
      let r = 64 - 8 * m in
      let k : 64 - w - u ≡ j + r = omega arith in
      let k' : 64 - u ≡ w + (j + r) = omega arith in
      let e : word ≡ x * 2 ^ (w + (j + r)) + n * 2 ^ (j + r) = is ∙ word_is ∙ ap₂ (λ a b. x * 2 ^ a + n * 2 ^ b) k' k in
      let f = front_is bs q u x (omega arith) (omega arith) refl in
      bits_of_bytes-append (take q bs) (take m (bytes_high_first 8 word))
      ∙ ap (λ ys. bits_of_bytes (take q bs) ++ ys) (block_is x n u w j r m word fits (omega arith) (omega arith) e)
      ∙ sym (append_assoc (bits_of_bytes (take q bs)) (num u x ++ num w n) (num j 0))
      ∙ ap (λ ys. ys ++ num j 0) (sym (append_assoc (bits_of_bytes (take q bs)) (num u x) (num w n)) ∙ ap (λ ys. ys ++ num w n) (sym f))
