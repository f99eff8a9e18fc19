-- Parts of a list of bits, and of packed bits.
use Rattle.std.proofs.Common.{◌≡◌, ℕ, zero, suc, ◌+◌, ◌-◌, ◌*◌, ◌/◌, ◌%◌, ◌^◌, ◌<◌, ◌≤◌, Bool, true, false, List, [], ◌∷◌, ◌++◌, length, get_or, take, drop, replicate, slice_get, Some, refl, sym, ap, ap₂, ◌∙◌, arith, length-append, length-drop, length-take-le, bit_and, eqb}
use Rattle.std.proofs.Math.Nat.{zero-mod, zero-div}
use Rattle.std.proofs.lemmas.Nat.Bits.{shr_and_one}
use Rattle.std.proofs.lemmas.List.{take-append-drop, drop-drop, drop-take, take-take, take_at, drop_at, drop_more}
use Rattle.std.proofs.lemmas.Option.{slice_get-get_or}
use Rattle.etcs_bits.specs.bits.Number.{num_of_bits, num, bits_of_bytes}
use Rattle.etcs_bits.specs.bits.Packed.{IsPacked}
use Rattle.etcs_bits.proofs.NumberLemmas.{length-num, num_of_bits-num, same_from_num, length-bits_of_bytes, take-bits_of_bytes, num_of_part, num_of_bytes-push}
use Rattle.etcs_bits.proofs.LoadLemmas.{num_of_none, place_of}

pub length-view : (bs : List ℕ) (len : ℕ) → len ≤ 8 * length bs → length (take len (bits_of_bytes bs)) ≡ len
length-view bs len h = length-take-le len (bits_of_bytes bs) (rw length-bits_of_bytes h)

pub length-part : (bs : List ℕ) (from to : ℕ) → to ≤ 8 * length bs → length (take (to - from) (drop from (bits_of_bytes bs))) ≡ to - from
length-part bs from to h = length-take-le (to - from) (drop from (bits_of_bytes bs)) (rw (length-drop, length-bits_of_bytes) (omega arith))

-- the first bits of the bytes that they take
pub in_few_bytes : (bs : List ℕ) (len n : ℕ) → len ≤ 8 * n → take len (bits_of_bytes (take n bs)) ≡ take len (bits_of_bytes bs)
in_few_bytes bs len n h = ap (take len) (sym (take-bits_of_bytes n bs)) ∙ take-take len (8 * n) (bits_of_bytes bs) h

pub part_of_part : (xs : List Bool) (a n f w : ℕ) → f + w ≤ n → take w (drop f (take n (drop a xs))) ≡ take w (drop (a + f) xs)
part_of_part xs a n f w h =
    let m = n - f in
    let e : n ≡ f + m = omega arith in
    ap (λ k. take w (drop f (take k (drop a xs)))) e
    ∙ ap (take w) (drop-take f m (drop a xs))
    ∙ take-take w m (drop f (drop a xs)) (omega arith)
    ∙ ap (take w) (drop-drop f a xs)

-- ---- one bit

one_bit : (b : Bool) → b ≡ eqb (num_of_bits (b ∷ [])) 1
unfolding num_of_bits
one_bit true = refl
one_bit false = refl

pub get_by_number : (xs : List Bool) (i : ℕ) → i < length xs → slice_get xs i ≡ Some (eqb (num_of_bits (take 1 (drop i xs))) 1)
get_by_number xs i h =
    slice_get-get_or xs i false h
    ∙ ap Some (one_bit (get_or xs i false) ∙ ap (λ ys. eqb (num_of_bits ys) 1) (sym (ap (take 1) (drop_more xs i false h))))

pub num_of_byte : (b : ℕ) → b < 256 → num_of_bits (bits_of_bytes (b ∷ [])) ≡ b
num_of_byte b h = let e = num_of_none in let f = num_of_bytes-push [] b h in omega arith

pub bit_of_bytes : (bs : List ℕ) (i : ℕ) → i < 8 * length bs → get_or bs (i / 8) 0 < 256
    → slice_get (bits_of_bytes bs) i ≡ Some (eqb (bit_and (get_or bs (i / 8) 0 / 2 ^ (7 - i % 8)) 1) 1)
bit_of_bytes bs i h fits =
    let q = i / 8 in
    let r = i % 8 in
    let k = 7 - r in
    let b = get_or bs q 0 in
    let one : take 1 (drop q bs) ≡ b ∷ [] = ap (take 1) (drop_more bs q 0 (omega arith)) in
    let l : length (take 1 (drop q bs)) ≡ 1 = ap length one in
    let p = num_of_part bs q r 1 1 k l (omega arith) in
    let v : num_of_bits (bits_of_bytes (take 1 (drop q bs))) ≡ b = ap (λ xs. num_of_bits (bits_of_bytes xs)) one ∙ num_of_byte b fits in
    get_by_number (bits_of_bytes bs) i (rw length-bits_of_bytes h)
    ∙ ap (λ n. Some (eqb n 1)) (
    ap (λ j. num_of_bits (take 1 (drop j (bits_of_bytes bs)))) (place_of i)
    ∙ p ∙ ap (λ n. n / 2 ^ k % 2) v ∙ sym (shr_and_one b k))

zero_mod : (n : ℕ) → 0 % n ≡ 0
zero_mod n = zero-mod n

-- ---- zeros at the end

pub zeros_are : (k : ℕ) → num k 0 ≡ replicate k false
unfolding num
zeros_are zero = refl
zeros_are (suc k) = let e : 0 / 2 ^ k % 2 ≡ 0 = omega (arith, zero-div (2 ^ k)) in ap₂ ◌∷◌ (ap (λ n. eqb n 1) e) (zeros_are k)

-- packed bits are their list and fewer than eight zeros
pub packed_is : (bs : List ℕ) (len : ℕ) → IsPacked bs len → bits_of_bytes bs ≡ take len (bits_of_bytes bs) ++ num (8 * length bs - len) 0
packed_is bs len h =
    let xs = bits_of_bytes bs in
    let n = 8 * length bs - len in
    let l : length (drop len xs) ≡ length (num n 0) = rw (length-drop, length-bits_of_bytes, length-num) refl in
    let z : num_of_bits (num n 0) ≡ 0 = num_of_bits-num n 0 ∙ zero_mod (2 ^ n) in
    let e : drop len xs ≡ num n 0 = same_from_num (drop len xs) (num n 0) l (h.zeros ∙ sym z) in
    sym (take-append-drop len xs) ∙ ap (λ ys. take len xs ++ ys) e

pub packed_from : (bs : List ℕ) (xs : List Bool) (len k : ℕ) → bits_of_bytes bs ≡ xs ++ num k 0 → length xs ≡ len → k < 8 → (take len (bits_of_bytes bs) ≡ xs) × IsPacked bs len
packed_from bs xs len k e l h =
    let n : 8 * length bs ≡ len + k = sym (length-bits_of_bytes bs) ∙ ap length e ∙ length-append xs (num k 0) ∙ ap₂ ◌+◌ l (length-num k 0) in
    let z : num_of_bits (drop len (bits_of_bytes bs)) ≡ 0 = ap (λ ys. num_of_bits (drop len ys)) e ∙ ap num_of_bits (drop_at xs (num k 0) len l) ∙ num_of_bits-num k 0 ∙ zero_mod (2 ^ k) in
    (ap (take len) e ∙ take_at xs (num k 0) len l, record { within = omega arith; tight = omega arith; zeros = z })
