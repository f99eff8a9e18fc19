-- Reading the text of a body gives the body again.
use Rattle.std.specs.Prelude.{◌≡◌, ℕ, zero, suc, ◌-◌, ◌*◌, ◌^◌, ◌<◌, ◌≤◌, ◌==◌, Bool, true, false, List, ◌++◌, length, take, drop, replicate, Ok, refl}
use Rattle.etcs_schema.specs.Prelude.{◌∙◌, sym, ap, ap₂, subst, arith, eq-eqb, string}
use Rattle.std.proofs.lemmas.List.{drop_at, length-append, length-drop, length-replicate, length-take, length-take-le, nil_from_length, take_at, take-append-drop}
use Rattle.std.proofs.Math.Pow.{pow_mono}
use Rattle.std.proofs.lemmas.Nat.{pow_pos}
use Rattle.hex.specs.Hex.{IsBytes}
use Rattle.hex.proofs.HexLemmas.{decode_of-encode_lower}
use Rattle.etcs_bits.specs.bits.Number.{bits_of_bytes, num, num_of_bits}
use Rattle.etcs_bits.proofs.NumberLemmas.{num-num_of_bits, num_of_bits-lt, num_of_bits-small}
use Rattle.etcs_bits.proofs.ViewLemmas.{zeros_are}
use Rattle.etcs_schema.specs.BodyText.{are_padded, body_bytes, decoded_body, body_text, byte_count, packed_bytes, decoded_or, padded_bits, first_bits}

-- ---- bytes of bits

pub length-packed_bytes : (n : ℕ) (bits : List Bool) → length (packed_bytes n bits) ≡ n
unfolding packed_bytes
length-packed_bytes zero bits = refl
length-packed_bytes (suc n) bits = ap suc (length-packed_bytes n (drop 8 bits))

byte_small : (bits : List Bool) → num_of_bits (take 8 bits) < 256
byte_small bits =
    let small = num_of_bits-lt (take 8 bits) in
    let few : length (take 8 bits) ≤ 8 = rw length-take (omega arith) in
    let top : 2 ^ length (take 8 bits) ≤ 2 ^ 8 = pow_mono few in
    omega (arith, small, top)

pub are_bytes : (n : ℕ) (bits : List Bool) → IsBytes (packed_bytes n bits)
unfolding packed_bytes
are_bytes zero bits i = omega arith
are_bytes (suc n) bits zero = byte_small bits
are_bytes (suc n) bits (suc i) = are_bytes n (drop 8 bits) i

-- bits of whole bytes: converting to bytes and back gives the same bits
pub bits_again : (n : ℕ) (bits : List Bool) → length bits ≡ 8 * n → bits_of_bytes (packed_bytes n bits) ≡ bits
unfolding packed_bytes bits_of_bytes
bits_again zero bits none = sym (nil_from_length bits none)
bits_again (suc n) bits count =
    let front : length (take 8 bits) ≡ 8 = length-take-le 8 bits (omega (arith, count)) in
    let byte : num 8 (num_of_bits (take 8 bits)) ≡ take 8 bits =
    subst (λ k. num k (num_of_bits (take 8 bits)) ≡ take 8 bits) front (num-num_of_bits (take 8 bits)) in
    let rest = bits_again n (drop 8 bits) (rw length-drop (omega (arith, count))) in
    ap₂ (λ x y. x ++ y) byte rest ∙ take-append-drop 8 bits

-- ---- a body

-- the bits and the zeros are whole bytes
pub padded_length : (bits : List Bool) → length (padded_bits bits) ≡ 8 * byte_count (length bits)
padded_length bits = rw (length-append, length-replicate) (omega arith)

pub body_bits : (body : List Bool) → bits_of_bytes (body_bytes body) ≡ padded_bits body
body_bits body = bits_again (byte_count (length body)) (padded_bits body) (padded_length body)

zeros_padded : (count : ℕ) (body : List Bool) → length body ≡ count
    → are_padded count (body_bytes body) ≡ true
zeros_padded count body is =
    let k = 8 * byte_count (length body) - length body in
    let none : num_of_bits (replicate k false) ≡ 0 =
    ap num_of_bits (sym (zeros_are k)) ∙ num_of_bits-small k 0 (pow_pos k) in
    ap (λ bits. num_of_bits (drop count bits) == 0) (body_bits body)
    ∙ ap (λ bits. num_of_bits bits == 0) (drop_at body (replicate k false) count is)
    ∙ ap (λ n. n == 0) none

bits_first : (body : List Bool) → first_bits (length body) (body_bytes body) ≡ Ok body
bits_first body =
    let count : length (body_bytes body) ≡ byte_count (length body) =
    length-packed_bytes (byte_count (length body)) (padded_bits body) in
    let padded = zeros_padded (length body) body refl in
    let same : take (length body) (bits_of_bytes (body_bytes body)) ≡ body =
    ap (take (length body)) (body_bits body) ∙ take_at body _ (length body) refl in
    rw (count, eq-eqb (byte_count (length body)) (byte_count (length body)) refl, padded, same) refl

-- the text of a body is read as the body
pub body_again : (body : List Bool) → decoded_body (length body) (string (body_text body)) ≡ Ok body
unfolding decoded_body
body_again body =
    ap (decoded_or (length body))
    (decode_of-encode_lower (body_bytes body) (are_bytes (byte_count (length body)) (padded_bits body)))
    ∙ bits_first body
