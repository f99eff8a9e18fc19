-- Bytes of bits, filled up with zeros.
use Rattle.std.proofs.Common.{◌≡◌, ℕ, zero, suc, ◌+◌, ◌-◌, ◌*◌, ◌^◌, ◌<◌, ◌≤◌, Bool, false, List, [], ◌∷◌, ◌++◌, length, take, drop, replicate, set, refl, sym, ap, ◌∙◌, arith, add-one}
use Rattle.std.proofs.Math.Seq.{take-append-add}
use Rattle.std.proofs.lemmas.Nat.{pow_pos}
use Rattle.std.proofs.lemmas.List.{take_all, take-append-le, drop-append-le, take-replicate, drop-drop, take_more_set, length-drop, length-take-le}
use Rattle.etcs_bits.specs.bits.Number.{num, num_of_bits}
use Rattle.etcs_bits.proofs.NumberLemmas.{length-num, num_of_bits-append, num_of_bits-lt, num_of_bits-small}
use Rattle.etcs_bits.proofs.ViewLemmas.{zeros_are}
use Rattle.etcs_schema.specs.lemmas.BodyLemmas.{padded_length}
use Rattle.etcs_schema.specs.BodyText.{byte_count, packed_bytes, padded_bits}

-- eight of the bits
pub whole_byte : (bits : List Bool) (at : ℕ) → at + 8 ≤ length bits → take 8 (drop at bits) ≡ take 8 (drop at (padded_bits bits))
whole_byte bits at inside =
    let zeros = replicate (8 * byte_count (length bits) - length bits) false in
    sym (ap (take 8) (drop-append-le at bits zeros (omega arith)) ∙ take-append-le 8 (drop at bits) zeros (rw length-drop (omega arith)))

-- the last bits, and zeros
pub last_byte : (bits : List Bool) (at left : ℕ) → at + left ≡ length bits → left < 8 → at + 8 ≤ 8 * byte_count (length bits)
    → num_of_bits (take left (drop at bits)) * 2 ^ (8 - left) ≡ num_of_bits (take 8 (drop at (padded_bits bits)))
last_byte bits at left last few inside =
    let z = 8 * byte_count (length bits) - length bits in
    let rest = drop at bits in
    let count : length rest ≡ left = rw length-drop (omega arith) in
    let whole : 8 ≡ length rest + (8 - left) = omega (arith, count) in
    let filled : take 8 (drop at (padded_bits bits)) ≡ rest ++ num (8 - left) 0 =
    ap (take 8) (drop-append-le at bits (replicate z false) (omega arith))
    ∙ ap (λ n. take n (rest ++ replicate z false)) whole
    ∙ take-append-add rest (replicate z false) (8 - left)
    ∙ ap (λ ys. rest ++ ys) (take-replicate (8 - left) z false (omega arith) ∙ sym (zeros_are (8 - left))) in
    let zero : num_of_bits (num (8 - left) 0) ≡ 0 = num_of_bits-small (8 - left) 0 (pow_pos (8 - left)) in
    let sum : num_of_bits (rest ++ num (8 - left) 0) ≡ num_of_bits rest * 2 ^ (8 - left) =
    num_of_bits-append rest (num (8 - left) 0) ∙ rw (length-num, zero) (omega arith) in
    ap (λ bs. num_of_bits bs * 2 ^ (8 - left)) (take_all left rest (omega arith)) ∙ sym (ap num_of_bits filled ∙ sum)

-- a byte has eight bits
pub byte_small : (bits : List Bool) (at : ℕ) → at + 8 ≤ 8 * byte_count (length bits) → num_of_bits (take 8 (drop at (padded_bits bits))) < 256
byte_small bits at inside =
    let rest = drop at (padded_bits bits) in
    let count : length (take 8 rest) ≡ 8 = length-take-le 8 rest (rw (length-drop, padded_length bits) (omega (arith, inside))) in
    let small = num_of_bits-lt (take 8 rest) in
    rw count at small

-- one more byte
bytes_next : (n : ℕ) (bits : List Bool)
    → packed_bytes (suc n) bits ≡ packed_bytes n bits ++ num_of_bits (take 8 (drop (8 * n) bits)) ∷ []
unfolding packed_bytes
bytes_next zero bits = refl
bytes_next (suc n) bits =
    let rest = drop 8 bits in
    let on : drop (8 * n) rest ≡ drop (8 * suc n) bits = drop-drop (8 * n) 8 bits ∙ ap (λ k. drop k bits) (omega arith) in
    ap (λ bytes. num_of_bits (take 8 bits) ∷ bytes) (bytes_next n rest ∙ ap (λ bs. packed_bytes n rest ++ num_of_bits (take 8 bs) ∷ []) on)

pub bytes_more : (bytes : List ℕ) (n : ℕ) (bits : List Bool) (byte : ℕ) → n < length bytes
    → byte ≡ num_of_bits (take 8 (drop (8 * n) bits)) → take n bytes ≡ packed_bytes n bits
    → take (n + 1) (set bytes n byte) ≡ packed_bytes (n + 1) bits
bytes_more bytes n bits byte low is so_far =
    take_more_set bytes n byte low
    ∙ ap (λ front. front ++ byte ∷ []) so_far
    ∙ ap (λ b. packed_bytes n bits ++ b ∷ []) is
    ∙ sym (bytes_next n bits)
    ∙ ap (λ k. packed_bytes k bits) (sym (add-one n))
