-- The tables of digits, and bytes that are made of their values.
use Rattle.std.proofs.Common.{◌≡◌, ℕ, ◌+◌, ◌*◌, ◌<◌, List, map, slice_index, Option, Some, None, Ok, ◌%◌, bit_or, length, take, drop, slice_set, arith, refl, sym, ap, ◌∙◌}
use Rattle.std.specs.List.{range_with_len}
use Rattle.std.proofs.lemmas.List.FromFn.{get_or-map-range_with_len}
use Rattle.std.proofs.lemmas.Nat.{le_or_l, le_or_r, or_shifted}
use Rattle.hex.specs.Hex.{decode_pairs, digit_or_error, hex_digit_value, pair_value, value_at}
use Rattle.hex.proofs.Pairs.{decode_step, prepend}

-- a digit's value in units, or 256 for none
abbrev pub entry : ℕ → Option ℕ → ℕ
entry u (Some v) = v * u
entry u None = 256

-- what a table has at each byte, for digits of this unit
abbrev pub table : ℕ → List ℕ
table u = map (λ c. entry u (hex_digit_value c)) (range_with_len 0 256)

pub entry_at : (t : List ℕ) (u c : ℕ) → t ≡ table u → c < 256 → entry u (hex_digit_value c) ≡ slice_index t c
entry_at t u c is byte = sym (ap (λ s. slice_index s c) is ∙ get_or-map-range_with_len (λ d. entry u (hex_digit_value d)) 0 256 c c 0 byte (omega arith))

-- an entry below 256 is the entry of a digit
is_digit : (u : ℕ) (o : Option ℕ) (e : ℕ) → entry u o ≡ e → e < 256 → (v : ℕ) × ((o ≡ Some v) × (v * u ≡ e))
is_digit u (Some v) e is lt = (v, (refl, is))
is_digit u None e is lt = absurd (omega arith)

is_small : (c v : ℕ) → hex_digit_value c ≡ Some v → v < 16
is_small c v is = grind (arith)

-- the two entries of a pair, joined
join : (v w h l : ℕ) → v * 16 ≡ h → w * 1 ≡ l → w < 16 → v * 16 + w ≡ bit_or h l
join v w h l high low small =
    let same : w ≡ l = omega (arith, low) in
    rw (← high, ← same) (sym (or_shifted v 4 w small))

-- the byte of two bytes with such entries
pair_at : (a b i h l : ℕ) → entry 16 (hex_digit_value a) ≡ h → entry 1 (hex_digit_value b) ≡ l → h < 256 → l < 256 → pair_value a b i ≡ Ok (bit_or h l)
pair_at a b i h l ha lb sh sl =
    let high = is_digit 16 (hex_digit_value a) h ha sh in
    let low = is_digit 1 (hex_digit_value b) l lb sl in
    let va : value_at a i ≡ Ok high.0 = ap (digit_or_error a i) high.1.0 in
    let vb : value_at b (i + 1) ≡ Ok low.0 = ap (digit_or_error b (i + 1)) low.1.0 in
    rw (va, vb) (ap Ok (join high.0 low.0 h l high.1.1 low.1.1 (is_small b low.0 low.1.0)))

-- the bytes so far are the bytes that the digits so far spell
abbrev pub IsDecoded : List ℕ → List ℕ → ℕ → Type 0
IsDecoded s out i = decode_pairs 0 s ≡ prepend (take i out) (decode_pairs (2 * i) (drop (2 * i) s))

-- one byte more, if no entry so far is 256 or above
pub decode_more : (s out : List ℕ) (i seen h l : ℕ) → 2 * i + 1 < length s → i < length out
    → entry 16 (hex_digit_value (slice_index s (2 * i))) ≡ h → entry 1 (hex_digit_value (slice_index s (2 * i + 1))) ≡ l
    → (seen < 256 → IsDecoded s out i) → bit_or seen (bit_or h l) < 256 → IsDecoded s (slice_set out i (bit_or h l % 256)) (i + 1)
decode_more s out i seen h l fits room high low so_far small =
    let a = le_or_l seen (bit_or h l) in
    let b = le_or_r seen (bit_or h l) in
    let ah = le_or_l h l in
    let al = le_or_r h l in
    let pair = pair_at (slice_index s (2 * i)) (slice_index s (2 * i + 1)) (2 * i) h l high low (omega (arith, b, ah, small)) (omega (arith, b, al, small)) in
    let whole : bit_or h l % 256 ≡ bit_or h l = omega (arith, b, small) in
    decode_step s out i _ fits room (pair ∙ ap Ok (sym whole)) (so_far (omega (arith, a, small)))
