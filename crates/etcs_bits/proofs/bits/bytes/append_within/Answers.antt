use Rattle.std.proofs.Common.{◌≡◌, ◌<◌, ◌+◌, ◌-◌, ◌*◌, ◌/◌, ◌%◌, ◌^◌, ◌∙◌, ap, ◌++◌, take, drop, set, get_or, length, refl, arith, rules, bit_or, vec_len}
use Rattle.std.specs.Int.{w64, to_be_bytes}
use Rattle.std.proofs.Common.{length-drop, ◌≤◌}
use Rattle.std.proofs.lemmas.List.{get_or_read, take_all}
use Rattle.etcs_bits.specs.bits.Number.{bits_of_bytes}
use Rattle.etcs_bits.proofs.StoreLemmas.{appended_within}
use Rattle.etcs_bits.proofs.AppendLemmas.{written_over}
use Rattle.etcs_bits.proofs.bits.bytes.append_within.Goals as goal

pub returns-clause-ok : goal.returns-clause-ok
returns-clause-ok c =
    let bs = c.args.bytes.now.items in
    let u = c.args.used in
    let w = c.args.width in
    let n = c.args.n in
    let m = (u + w + 7) / 8 in
    let q = vec_len c.args.bytes.now - 1 in
    let word = bit_or (c.index.result.now * 2 ^ 56 % 2 ^ 64) (n * 2 ^ (64 - w - u) % 2 ^ 64) in
    let k : c.len-last.result - 1 ≡ q = ap (λ i. i - 1) c.len-last.ensures in
    let is : length bs ≡ vec_len c.args.bytes.now = search rules in
    let last : q + 1 ≡ length bs = omega arith in
    let read : c.index.result.now ≡ get_or bs q 0 =
    get_or_read bs q c.index.result.now (omega arith) (c.index.ensures ∙ ap (λ i. get_or bs i c.index.result.now) k) 0 in
    let byte : c.index.result.now < 256 = search rules in
    let fits : get_or bs q 0 < 256 = omega arith in
    let block : c.to_be_bytes-block.result ≡ to_be_bytes w64 word = c.to_be_bytes-block.ensures in
    let eight : length c.to_be_bytes-block.result ≡ 8 = search rules in
    let seven : length (drop 1 c.to_be_bytes-block.result) ≤ 7 = omega (arith, eight, length-drop 1 c.to_be_bytes-block.result) in
    ap bits_of_bytes (
    ap (λ xs. set xs (c.len-last.result - 1) (get_or c.to_be_bytes-block.result 0 0)) c.in_ok-append_few.ensures.ok
    ∙ ap (λ ys. set (bs ++ take (m - 1) ys) (c.len-last.result - 1) (get_or c.to_be_bytes-block.result 0 0)) (take_all 7 (drop 1 c.to_be_bytes-block.result) seven)
    ∙ ap (λ i. set (bs ++ take (m - 1) (drop 1 c.to_be_bytes-block.result)) i (get_or c.to_be_bytes-block.result 0 0)) k
    ∙ ap (λ ys. set (bs ++ take (m - 1) (drop 1 ys)) q (get_or ys 0 0)) block
    ∙ written_over bs (to_be_bytes w64 word) q m last (omega arith) (omega arith))
    ∙ appended_within bs q u w n m last c.requires.positive c.requires.within c.requires.low c.requires.high c.requires.fits fits c.requires.zeros refl word
    (ap (λ b. bit_or (b * 2 ^ 56 % 2 ^ 64) (n * 2 ^ (64 - w - u) % 2 ^ 64)) read)
