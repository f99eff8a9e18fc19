-- Blocks of 16 bytes, decoded from 32 digits at once.
use Rattle.std.proofs.Common.{◌≡◌, ℕ, zero, suc, ◌+◌, ◌*◌, ◌^◌, ◌%◌, ◌<◌, ◌≤◌, ◌==◌, Bool, true, false, cond, ltb, List, [], ◌∷◌, ◌++◌, get_or, map, length, take, drop, Option, Some, None, Ok, bit_or, refl, sym, ap, ap₂, subst, ◌∙◌, arith}
use Rattle.std.specs.Prelude.{IsTrue}
use Rattle.std.specs.List.{range_with_len}
use Rattle.std.specs.Option.{unwrap_or}
use Rattle.std.specs.Simd.Lanes.{chunk, mask_l, top}
use Rattle.std.proofs.Math.Nat.{two-pow-succ}
use Rattle.std.proofs.Math.Seq.{take-add}
use Rattle.std.proofs.lemmas.Bool.{eqb-true, ltb-true}
use Rattle.std.proofs.lemmas.List.{append-nil, append_assoc, get_or-map, get_or-take, length-take-le, map-append}
use Rattle.std.proofs.lemmas.List.FromFn.{get_or-map-range_with_len}
use Rattle.std.proofs.lemmas.Nat.{le_or_l, le_or_r, or_shifted}
use Rattle.std.proofs.lemmas.Simd.{mask_l-mod}
use Rattle.hex.specs.Hex.{decode_pairs, digit_or_error, hex_digit_value, pair_value, value_at}
use Rattle.hex.proofs.Pairs.{cons_byte, decode_pairs-ok_pair, drop-pair, prepend, prepend-cons_byte}

-- ---- a pair of digits

-- the value of a digit, and 255 for a byte that is no digit
abbrev pub worth_of : ℕ → ℕ
worth_of c = unwrap_or (hex_digit_value c) 255

is_worth : (o : Option ℕ) → unwrap_or o 255 < 16 → o ≡ Some (unwrap_or o 255)
is_worth (Some v) small = refl
is_worth None small = absurd (omega arith)

-- the byte of two digits, from their values
abbrev pub byte_of : ℕ → ℕ → ℕ
byte_of h l = bit_or (h * 16 % 256) l

pub pair_of : (a b place : ℕ) → bit_or (worth_of a) (worth_of b) < 16
    → pair_value a b place ≡ Ok (byte_of (worth_of a) (worth_of b))
pair_of a b place small =
    let h = worth_of a in
    let l = worth_of b in
    let high : h < 16 = omega (arith, le_or_l h l, small) in
    let low : l < 16 = omega (arith, le_or_r h l, small) in
    let va : value_at a place ≡ Ok h = ap (digit_or_error a place) (is_worth (hex_digit_value a) high) in
    let vb : value_at b (place + 1) ≡ Ok l = ap (digit_or_error b (place + 1)) (is_worth (hex_digit_value b) low) in
    let whole : h * 16 % 256 ≡ h * 16 = omega arith in
    rw (va, vb, whole) (ap Ok (sym (or_shifted h 4 l low)))

-- ---- a test that all lanes pass

all_set : (ms : List Bool) → mask_l ms + 1 ≡ 2 ^ length ms → (j : ℕ) → j < length ms → get_or ms j false ≡ true
all_set [] full j lt = absurd (omega arith)
all_set (true ∷ ms) full zero lt = refl
all_set (true ∷ ms) full (suc j) lt = all_set ms (omega (arith, full, two-pow-succ (length ms))) j (omega (arith, lt))
all_set (false ∷ ms) full j lt = absurd (omega (arith, full, two-pow-succ (length ms)))

lane_set : (b : Bool) → top 7 (cond b 255 0) ≡ true → b ≡ true
lane_set true set = refl
lane_set false set = absurd cc

-- the test of a pair's lane, from the values of the digits
abbrev test_at : List ℕ → ℕ → ℕ
test_at ws k = cond (ltb (bit_or (get_or ws (2 * k) 0) (get_or ws (2 * k + 1) 0)) 16) 255 0

abbrev byte_at : List ℕ → ℕ → ℕ
byte_at ws k = byte_of (get_or ws (2 * k) 0) (get_or ws (2 * k + 1) 0)

-- the values of the digits in two vectors
worth_at : (s a b : List ℕ) → 32 ≤ length s → a ≡ map worth_of (chunk 0 16 s) → b ≡ map worth_of (chunk 16 16 s)
    → (i : ℕ) → i < 32 → get_or (a ++ b) i 0 ≡ worth_of (get_or s i 0)
worth_at s a b long front back i lt =
    let whole : a ++ b ≡ map worth_of (take 32 s) =
    ap₂ (λ xs ys. xs ++ ys) front back ∙ sym (map-append worth_of (take 16 s) (take 16 (drop 16 s))) ∙ ap (map worth_of) (sym (take-add 16 16 s)) in
    ap (λ xs. get_or xs i 0) whole
    ∙ get_or-map worth_of (take 32 s) i 0 0 (omega (arith, length-take-le 32 s long, lt))
    ∙ ap worth_of (get_or-take 32 s i 0 lt)

-- sixteen bytes of 32 digits
pub block_of : (s a b : List ℕ) → 32 ≤ length s → a ≡ map worth_of (chunk 0 16 s) → b ≡ map worth_of (chunk 16 16 s)
    → IsTrue (mask_l (map (top 7) (map (test_at (a ++ b)) (range_with_len 0 16))) % 2 ^ 64 == 65535)
    → (j place : ℕ) → j < 16
    → pair_value (get_or s (2 * j) 0) (get_or s (2 * j + 1) 0) place ≡ Ok (get_or (map (byte_at (a ++ b)) (range_with_len 0 16)) j 0)
block_of s a b long front back all j place lt =
    let ws = a ++ b in
    let tests = map (test_at ws) (range_with_len 0 16) in
    let mask = eqb-true _ _ all in
    let full : mask_l (map (top 7) tests) + 1 ≡ 2 ^ 16 = omega (arith, mask, mask_l-mod (map (top 7) tests) 64 (omega arith)) in
    let set : get_or (map (top 7) tests) j false ≡ true = all_set (map (top 7) tests) full j lt in
    let lane : top 7 (test_at ws j) ≡ true =
    sym (get_or-map (top 7) tests j 0 false lt ∙ ap (top 7) (get_or-map-range_with_len (test_at ws) 0 16 j j 0 lt (omega arith))) ∙ set in
    let small = ltb-true _ _ (lane_set _ lane) in
    let high = worth_at s a b long front back (2 * j) (omega arith) in
    let low = worth_at s a b long front back (2 * j + 1) (omega arith) in
    pair_of (get_or s (2 * j) 0) (get_or s (2 * j + 1) 0) place (subst (λ n. n < 16) (ap₂ bit_or high low) small)
    ∙ ap Ok (ap₂ byte_of (sym high) (sym low) ∙ sym (get_or-map-range_with_len (byte_at ws) 0 16 j j 0 lt (omega arith)))

-- ---- many bytes more

pub decode_run : (s front bs : List ℕ) (i : ℕ) → 2 * (i + length bs) ≤ length s
    → ((j : ℕ) → j < length bs → pair_value (get_or s (2 * (i + j)) 0) (get_or s (2 * (i + j) + 1) 0) (2 * (i + j)) ≡ Ok (get_or bs j 0))
    → decode_pairs 0 s ≡ prepend front (decode_pairs (2 * i) (drop (2 * i) s))
    → decode_pairs 0 s ≡ prepend (front ++ bs) (decode_pairs (2 * (i + length bs)) (drop (2 * (i + length bs)) s))
decode_run s front [] i room pairs so_far =
    so_far ∙ ap₂ (λ f k. prepend f (decode_pairs (2 * k) (drop (2 * k) s))) (sym (append-nil front)) (omega arith)
decode_run s front (b ∷ bs) i room pairs so_far =
    let rest : List ℕ = drop (2 * (i + 1)) s in
    let two : 2 * i + 2 ≡ 2 * (i + 1) = omega arith in
    let here : i + 0 ≡ i = omega arith in
    let first : pair_value (get_or s (2 * i) 0) (get_or s (2 * i + 1) 0) (2 * i) ≡ Ok b =
    subst (λ k. pair_value (get_or s (2 * k) 0) (get_or s (2 * k + 1) 0) (2 * k) ≡ Ok b) here (pairs 0 (omega arith)) in
    let pair = ap (decode_pairs (2 * i)) (drop-pair s i (omega (arith, room))) ∙ decode_pairs-ok_pair (2 * i) _ _ b rest first
    ∙ ap (λ (k : ℕ). cons_byte b (decode_pairs k rest)) two in
    let step = so_far ∙ ap (prepend front) pair ∙ prepend-cons_byte front b _ in
    let later = decode_run s (front ++ b ∷ []) bs (i + 1) (omega (arith, room))
    (λ j lt. subst (λ k. pair_value (get_or s (2 * k) 0) (get_or s (2 * k + 1) 0) (2 * k) ≡ Ok (get_or bs j 0)) (omega arith) (pairs (suc j) (omega (arith, lt))))
    step in
    later ∙ ap₂ (λ f k. prepend f (decode_pairs (2 * k) (drop (2 * k) s))) (append_assoc front (b ∷ []) bs) (omega arith)
