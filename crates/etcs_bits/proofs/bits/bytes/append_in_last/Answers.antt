use Rattle.std.proofs.Common.{◌≡◌, ◌<◌, ◌+◌, ◌-◌, ◌*◌, ◌/◌, ◌%◌, ◌^◌, ◌∙◌, ap, ◌++◌, sym, take, drop, set, get_or, length, refl, arith, rules, bit_or, vec_len, append-nil}
use Rattle.std.specs.Int.{w64, to_be_bytes}
use Rattle.std.proofs.lemmas.List.{get_or_read}
use Rattle.etcs_bits.specs.bits.Number.{bits_of_bytes}
use Rattle.etcs_bits.proofs.StoreLemmas.{appended_within}
use Rattle.etcs_bits.proofs.AppendLemmas.{written_over}
use Rattle.etcs_bits.proofs.bits.bytes.append_in_last.Goals as goal

pub returns : goal.returns
returns c =
    let bs = c.args.bytes.now.items in
    let u = c.args.used in
    let w = c.args.width in
    let n = c.args.n in
    let m = (u + w + 7) / 8 in
    let q = vec_len c.args.bytes.now - 1 in
    let word = bit_or (c.index.result.now * 2 ^ 56 % 2 ^ 64) (n * 2 ^ (64 - w - u) % 2 ^ 64) in
    let none : m - 1 ≡ 0 = omega (arith, c.requires.high) in
    let k : c.len-place.result - 1 ≡ q = ap (λ i. i - 1) c.len-place.ensures in
    let is : length bs ≡ vec_len c.args.bytes.now = search rules in
    let last : q + 1 ≡ length bs = omega arith in
    let read : c.index.result.now ≡ get_or bs q 0 =
    get_or_read bs q c.index.result.now (omega arith) (c.index.ensures ∙ ap (λ i. get_or bs i c.index.result.now) k) 0 in
    let byte : c.index.result.now < 256 = search rules in
    let fits : get_or bs q 0 < 256 = omega arith in
    let block : c.to_be_bytes.result ≡ to_be_bytes w64 word = c.to_be_bytes.ensures in
    ap bits_of_bytes (
    ap (λ i. set bs i (get_or c.to_be_bytes.result 0 0)) k
    ∙ ap (λ ys. set bs q (get_or ys 0 0)) block
    ∙ ap (λ xs. set xs q (get_or (to_be_bytes w64 word) 0 0)) (sym (ap (λ j. bs ++ take j (drop 1 (to_be_bytes w64 word))) none ∙ append-nil bs))
    ∙ written_over bs (to_be_bytes w64 word) q m last (omega arith) (omega arith))
    ∙ appended_within bs q u w n m last c.requires.positive (omega arith) c.requires.low (omega arith) c.requires.fits fits c.requires.zeros refl word
    (ap (λ b. bit_or (b * 2 ^ 56 % 2 ^ 64) (n * 2 ^ (64 - w - u) % 2 ^ 64)) read)
