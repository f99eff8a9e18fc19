-- What the shifts and loads of `word` give.
use Rattle.std.proofs.Common.{◌≡◌, ℕ, ◌+◌, ◌-◌, ◌*◌, ◌/◌, ◌%◌, ◌^◌, ◌<◌, ◌≤◌, List, [], ◌∷◌, length, get_or, take, drop, refl, sym, ap, ap₂, ◌∙◌, arith, length-drop, length-take-le, bit_and}
use Rattle.std.specs.Int.{w64, from_be_bytes}
use Rattle.std.proofs.Math.Nat.{pow-le-pow_right, mul-mod_left}
use Rattle.std.proofs.lemmas.Nat.{mod-pow-add, field_of, shl-shr, shr-shr, one_shl, and_mask}
use Rattle.std.proofs.lemmas.List.{drop_more, take_more}
use Rattle.etcs_bits.specs.bits.Number.{num_of_bits, bits_of_bytes}
use Rattle.etcs_bits.specs.bits.Packed.{IsPacked}
use Rattle.etcs_bits.proofs.NumberLemmas.{num_of_bits-lt, length-bits_of_bytes, num_of_bytes-push, num_of_part}

pub num_of_none : num_of_bits (bits_of_bytes []) ≡ 0
unfolding num_of_bits bits_of_bytes
num_of_none = refl

pub none_packed : IsPacked [] 0
none_packed = record { within = omega arith; tight = omega arith; zeros = num_of_none }

-- four bytes are a number of 32 bits
pub num_of_four : (bs : List ℕ) → length bs ≤ 4 → num_of_bits (bits_of_bytes bs) < 2 ^ 32
num_of_four bs h =
    let a = num_of_bits-lt (bits_of_bytes bs) in
    let b : 2 ^ length (bits_of_bytes bs) ≤ 2 ^ 32 = pow-le-pow_right (omega arith) {i = length (bits_of_bytes bs)} {j = 32} (rw length-bits_of_bytes (omega arith)) in
    omega arith

pub num_of_more : (bs : List ℕ) (i : ℕ) → i < length bs → get_or bs i 0 < 256 → num_of_bits (bits_of_bytes (take i bs)) * 256 + get_or bs i 0 ≡ num_of_bits (bits_of_bytes (take (i + 1) bs))
num_of_more bs i h b = sym (ap (λ xs. num_of_bits (bits_of_bytes xs)) (take_more bs i 0 h) ∙ num_of_bytes-push (take i bs) (get_or bs i 0) b)

-- eight bytes, as `from_be_bytes` weighs them
word_of : (a b c d e f g h : ℕ) → a < 256 → b < 256 → c < 256 → d < 256 → e < 256 → f < 256 → g < 256 → h < 256
    → from_be_bytes w64 (a ∷ b ∷ c ∷ d ∷ e ∷ f ∷ g ∷ h ∷ []) ≡ num_of_bits (bits_of_bytes (a ∷ b ∷ c ∷ d ∷ e ∷ f ∷ g ∷ h ∷ []))
word_of a b c d e f g h ha hb hc hd he hf hg hh =
    let n0 = num_of_none in
    let n1 = num_of_bytes-push [] a ha in
    let n2 = num_of_bytes-push (a ∷ []) b hb in
    let n3 = num_of_bytes-push (a ∷ b ∷ []) c hc in
    let n4 = num_of_bytes-push (a ∷ b ∷ c ∷ []) d hd in
    let n5 = num_of_bytes-push (a ∷ b ∷ c ∷ d ∷ []) e he in
    let n6 = num_of_bytes-push (a ∷ b ∷ c ∷ d ∷ e ∷ []) f hf in
    let n7 = num_of_bytes-push (a ∷ b ∷ c ∷ d ∷ e ∷ f ∷ []) g hg in
    let n8 = num_of_bytes-push (a ∷ b ∷ c ∷ d ∷ e ∷ f ∷ g ∷ []) h hh in
    omega arith

next_of : (bs : List ℕ) (q i j : ℕ) → i + 1 ≡ j → q + j ≤ length bs → drop (q + i) bs ≡ get_or bs (q + i) 0 ∷ drop (q + j) bs
next_of bs q i j e h = drop_more bs (q + i) 0 (omega arith) ∙ ap (λ k. get_or bs (q + i) 0 ∷ drop k bs) (omega arith)

eight_of : (bs : List ℕ) (q : ℕ) → q + 8 ≤ length bs
    → take 8 (drop q bs) ≡ get_or bs q 0 ∷ get_or bs (q + 1) 0 ∷ get_or bs (q + 2) 0 ∷ get_or bs (q + 3) 0 ∷ get_or bs (q + 4) 0 ∷ get_or bs (q + 5) 0 ∷ get_or bs (q + 6) 0 ∷ get_or bs (q + 7) 0 ∷ []
eight_of bs q h =
    rw (
      drop_more bs q 0 (omega arith),
      next_of bs q 1 2 refl (omega arith),
      next_of bs q 2 3 refl (omega arith),
      next_of bs q 3 4 refl (omega arith),
      next_of bs q 4 5 refl (omega arith),
      next_of bs q 5 6 refl (omega arith),
      next_of bs q 6 7 refl (omega arith),
      next_of bs q 7 8 refl (omega arith),
    ) refl

pub word_at_is : (bs : List ℕ) (q : ℕ) → ((i : ℕ) → get_or bs i 0 < 256) → q + 8 ≤ length bs
    → from_be_bytes w64 (get_or bs q 0 ∷ get_or bs (q + 1) 0 ∷ get_or bs (q + 2) 0 ∷ get_or bs (q + 3) 0 ∷ get_or bs (q + 4) 0 ∷ get_or bs (q + 5) 0 ∷ get_or bs (q + 6) 0 ∷ get_or bs (q + 7) 0 ∷ [])
    ≡ num_of_bits (bits_of_bytes (take 8 (drop q bs)))
word_at_is bs q b h =
    word_of _ _ _ _ _ _ _ _ (b q) (b (q + 1)) (b (q + 2)) (b (q + 3)) (b (q + 4)) (b (q + 5)) (b (q + 6)) (b (q + 7))
    ∙ ap (λ xs. num_of_bits (bits_of_bytes xs)) (sym (eight_of bs q h))

-- `(x << r) >> (64 - w)`
two_shifts : (x r w k : ℕ) → r + w + k ≡ 64 → x * 2 ^ r % 2 ^ 64 / 2 ^ (64 - w) ≡ x / 2 ^ k % 2 ^ w
two_shifts x r w k e =
    let a : 64 ≡ (w + k) + r = omega arith in
    let b : 64 - w ≡ r + k = omega arith in
    let c : x * 2 ^ r % 2 ^ ((w + k) + r) ≡ x % 2 ^ (w + k) * 2 ^ r =
    mod-pow-add (x * 2 ^ r) (w + k) r ∙ ap₂ (λ n m. n % 2 ^ (w + k) * 2 ^ r + m) (shl-shr x r) (mul-mod_left x (2 ^ r)) ∙ omega arith in
    ap₂ (λ i j. x * 2 ^ r % 2 ^ i / 2 ^ j) a b
    ∙ ap (λ n. n / 2 ^ (r + k)) c
    ∙ sym (shr-shr (x % 2 ^ (w + k) * 2 ^ r) r k)
    ∙ ap (λ n. n / 2 ^ k) (shl-shr (x % 2 ^ (w + k)) r)
    ∙ field_of x w k

pub place_of : (from : ℕ) → from ≡ 8 * (from / 8) + from % 8
place_of from = omega arith

-- a field of eight bytes, whose number the word is
pub num_in_word : (bs : List ℕ) (x q r w : ℕ) → x ≡ num_of_bits (bits_of_bytes (take 8 (drop q bs))) → q + 8 ≤ length bs → r + w ≤ 64
    → x * 2 ^ r % 2 ^ 64 / 2 ^ (64 - w) ≡ num_of_bits (take w (drop (8 * q + r) (bits_of_bytes bs)))
num_in_word bs x q r w is within small =
    let k = 64 - w - r in
    let l : length (take 8 (drop q bs)) ≡ 8 = length-take-le 8 (drop q bs) (rw length-drop (omega arith)) in
    two_shifts x r w k (omega arith)
    ∙ ap (λ n. n / 2 ^ k % 2 ^ w) is
    ∙ sym (num_of_part bs q r w 8 k l (omega arith))

pub num_by_word : (bs : List ℕ) (x from w : ℕ) → x ≡ num_of_bits (bits_of_bytes (take 8 (drop (from / 8) bs))) → from / 8 + 8 ≤ length bs → w ≤ 32
    → x * 2 ^ (from % 8) % 2 ^ 64 / 2 ^ (64 - w) ≡ num_of_bits (take w (drop from (bits_of_bytes bs)))
num_by_word bs x from w is within small =
    num_in_word bs x (from / 8) (from % 8) w is within (omega arith)
    ∙ ap (λ j. num_of_bits (take w (drop j (bits_of_bytes bs)))) (sym (place_of from))

pub num_by_few : (bs : List ℕ) (x from w n : ℕ) → x ≡ num_of_bits (bits_of_bytes (take n (drop (from / 8) bs))) → n ≡ (from % 8 + w + 7) / 8 → from + w ≤ 8 * length bs → 1 ≤ w → w ≤ 32
    → bit_and (x / 2 ^ (8 * n - from % 8 - w)) (1 * 2 ^ w % 2 ^ 64 - 1) ≡ num_of_bits (take w (drop from (bits_of_bytes bs)))
num_by_few bs x from w n is count within positive small =
    let r = from % 8 in
    let q = from / 8 in
    let k = 8 * n - r - w in
    let l : length (take n (drop q bs)) ≡ n = length-take-le n (drop q bs) (rw length-drop (omega arith)) in
    ap (λ m. bit_and (x / 2 ^ k) (m - 1)) (one_shl w 64 (omega arith))
    ∙ and_mask (x / 2 ^ k) w
    ∙ ap (λ m. m / 2 ^ k % 2 ^ w) is
    ∙ sym (num_of_part bs q r w n k l (omega arith))
    ∙ ap (λ j. num_of_bits (take w (drop j (bits_of_bytes bs)))) (sym (place_of from))
