-- Laws of the bits of numbers and of bytes, further ones.
pub use Rattle.etcs_bits.specs.lemmas.NumberLemmas.{worth_of_digit, num_of_bits-cons, num_of_bits-lt, same_from_num, length-num, num_of_bits-num, num_of_bits-small, num-num_of_bits}
use Rattle.std.proofs.Common.{◌≡◌, ℕ, zero, suc, ◌+◌, ◌-◌, ◌*◌, ◌/◌, ◌%◌, ◌^◌, ◌<◌, ◌≤◌, Bool, List, [], ◌∷◌, ◌++◌, length, take, drop, refl, sym, ap, ap₂, ◌∙◌, arith, length-append, length-drop, append_assoc, mod-eq_of_lt}
use Rattle.std.proofs.lemmas.Nat.{pow-add, field_of, shr_high, mod_low}
use Rattle.std.proofs.lemmas.List.{take-append-drop, drop-drop, drop-take, take-take, drop_at, append-nil}
use Rattle.std.proofs.Math.Seq.{drop-nil, take-nil, take-append-add}
use Rattle.etcs_bits.specs.bits.Number.{num_of_bits, num, bits_of_bytes}

pub num_of_bits-append : (xs ys : List Bool) → num_of_bits (xs ++ ys) ≡ num_of_bits xs * 2 ^ length ys + num_of_bits ys
num_of_bits-append [] ys = unfold num_of_bits in omega arith
num_of_bits-append (x ∷ xs) ys =
    let h = num_of_bits-append xs ys in
    let e : 2 ^ length (xs ++ ys) ≡ 2 ^ length xs * 2 ^ length ys = ap (λ k. 2 ^ k) (length-append xs ys) ∙ pow-add 2 (length xs) (length ys) in
    num_of_bits-cons x (xs ++ ys) ∙ rw (e, h) (rw num_of_bits-cons (omega arith))

pub num_of_bits-take : (k : ℕ) (xs : List Bool) → num_of_bits (take k xs) ≡ num_of_bits xs / 2 ^ length (drop k xs)
num_of_bits-take k xs =
    sym (shr_high (num_of_bits (take k xs)) (length (drop k xs)) (num_of_bits (drop k xs)) (num_of_bits-lt (drop k xs)))
    ∙ ap (λ n. n / 2 ^ length (drop k xs)) (sym (num_of_bits-append (take k xs) (drop k xs)) ∙ ap num_of_bits (take-append-drop k xs))

pub num_of_bits-drop : (k : ℕ) (xs : List Bool) → num_of_bits (drop k xs) ≡ num_of_bits xs % 2 ^ length (drop k xs)
num_of_bits-drop k xs =
    sym (mod_low (num_of_bits (take k xs)) (length (drop k xs)) (num_of_bits (drop k xs)) (num_of_bits-lt (drop k xs)))
    ∙ ap (λ n. n % 2 ^ length (drop k xs)) (sym (num_of_bits-append (take k xs) (drop k xs)) ∙ ap num_of_bits (take-append-drop k xs))

-- the number of the w bits from place `from`, k bits before the end
pub num_of_window : (xs : List Bool) (from w k : ℕ) → from + w + k ≡ length xs → num_of_bits (take w (drop from xs)) ≡ num_of_bits xs / 2 ^ k % 2 ^ w
num_of_window xs from w k e =
    let a : length (drop w (drop from xs)) ≡ k = rw (length-drop, length-drop) (omega arith) in
    let b : length (drop from xs) ≡ w + k = rw length-drop (omega arith) in
    num_of_bits-take w (drop from xs)
    ∙ ap₂ (λ n j. n / 2 ^ j) (num_of_bits-drop from xs ∙ ap (λ j. num_of_bits xs % 2 ^ j) b) a
    ∙ field_of (num_of_bits xs) w k

-- ---- the bits of bytes

pub length-bits_of_bytes : (bs : List ℕ) → length (bits_of_bytes bs) ≡ 8 * length bs
unfolding bits_of_bytes
length-bits_of_bytes [] = refl
length-bits_of_bytes (b ∷ bs) = let h = length-bits_of_bytes bs in rw (length-append, length-num, h) (omega arith)

pub bits_of_one : (b : ℕ) → bits_of_bytes (b ∷ []) ≡ num 8 b
unfolding bits_of_bytes
bits_of_one b = append-nil (num 8 b)

pub bits_of_bytes-append : (xs ys : List ℕ) → bits_of_bytes (xs ++ ys) ≡ bits_of_bytes xs ++ bits_of_bytes ys
unfolding bits_of_bytes
bits_of_bytes-append [] ys = refl
bits_of_bytes-append (x ∷ xs) ys = ap (λ zs. num 8 x ++ zs) (bits_of_bytes-append xs ys) ∙ sym (append_assoc (num 8 x) (bits_of_bytes xs) (bits_of_bytes ys))

pub bits_of_bytes-cons : (b : ℕ) (bs : List ℕ) → bits_of_bytes (b ∷ bs) ≡ num 8 b ++ bits_of_bytes bs
unfolding bits_of_bytes
bits_of_bytes-cons b bs = refl

pub drop-bits_of_bytes : (k : ℕ) (bs : List ℕ) → drop (8 * k) (bits_of_bytes bs) ≡ bits_of_bytes (drop k bs)
drop-bits_of_bytes zero bs = refl
drop-bits_of_bytes (suc k) [] = unfold bits_of_bytes in drop-nil (8 * suc k)
drop-bits_of_bytes (suc k) (b ∷ bs) =
    let e : 8 * suc k ≡ 8 + 8 * k = omega arith in
    rw (e, bits_of_bytes-cons, ← drop-drop (8 * k) 8 (num 8 b ++ bits_of_bytes bs), drop_at (num 8 b) (bits_of_bytes bs) 8 (length-num 8 b)) (drop-bits_of_bytes k bs)

pub take-bits_of_bytes : (k : ℕ) (bs : List ℕ) → take (8 * k) (bits_of_bytes bs) ≡ bits_of_bytes (take k bs)
take-bits_of_bytes zero bs = unfold bits_of_bytes in refl
take-bits_of_bytes (suc k) [] = unfold bits_of_bytes in take-nil (8 * suc k)
take-bits_of_bytes (suc k) (b ∷ bs) =
    let e : 8 * suc k ≡ length (num 8 b) + 8 * k = rw length-num (omega arith) in
    rw (e, bits_of_bytes-cons, take-append-add, take-bits_of_bytes k bs) (sym (bits_of_bytes-cons b (take k bs)))

-- the part of w bits from place 8 q + r lies in the n bytes from byte q
pub part_in_block : (bs : List ℕ) (q r w n : ℕ) → r + w ≤ 8 * n → take w (drop (8 * q + r) (bits_of_bytes bs)) ≡ take w (drop r (bits_of_bytes (take n (drop q bs))))
part_in_block bs q r w n h =
    let m = 8 * n - r in
    let e : r + m ≡ 8 * n = omega arith in
    let ys = bits_of_bytes (drop q bs) in
    let a : drop (8 * q + r) (bits_of_bytes bs) ≡ drop r ys = sym (drop-drop r (8 * q) (bits_of_bytes bs)) ∙ ap (drop r) (drop-bits_of_bytes q bs) in
    let b : bits_of_bytes (take n (drop q bs)) ≡ take (r + m) ys = sym (take-bits_of_bytes n (drop q bs)) ∙ ap (λ j. take j ys) (sym e) in
    let c : drop r (take (r + m) ys) ≡ take m (drop r ys) = drop-take r m ys in
    let d : take w (take m (drop r ys)) ≡ take w (drop r ys) = take-take w m (drop r ys) (omega arith) in
    ap (take w) a ∙ sym (ap (λ zs. take w (drop r zs)) b ∙ ap (take w) c ∙ d)

-- its number, from the number of the block: the code's two shifts
pub num_of_part : (bs : List ℕ) (q r w n k : ℕ) → length (take n (drop q bs)) ≡ n → r + w + k ≡ 8 * n → num_of_bits (take w (drop (8 * q + r) (bits_of_bytes bs))) ≡ num_of_bits (bits_of_bytes (take n (drop q bs))) / 2 ^ k % 2 ^ w
num_of_part bs q r w n k l e =
    ap num_of_bits (part_in_block bs q r w n (omega arith))
    ∙ num_of_window (bits_of_bytes (take n (drop q bs))) r w k (rw (length-bits_of_bytes, l) e)

-- one byte more
pub num_of_bytes-push : (bs : List ℕ) (b : ℕ) → b < 256 → num_of_bits (bits_of_bytes (bs ++ b ∷ [])) ≡ num_of_bits (bits_of_bytes bs) * 256 + b
num_of_bytes-push bs b h =
    ap num_of_bits (bits_of_bytes-append bs (b ∷ []))
    ∙ num_of_bits-append (bits_of_bytes bs) (bits_of_bytes (b ∷ []))
    ∙ (let e : bits_of_bytes (b ∷ []) ≡ num 8 b = bits_of_one b in
    rw (e, length-num, num_of_bits-num, mod-eq_of_lt h) refl)
