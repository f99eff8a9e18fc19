use Rattle.std.proofs.Common.{◌≡◌, ◌+◌, ◌-◌, ◌*◌, ◌<◌, ◌∙◌, Ok, ap, ap₂, sym, arith, drop, get_or, length, refl, take, length-set}
use Rattle.std.proofs.lemmas.Bool.Decides.{nat_tests}
use Rattle.std.proofs.lemmas.List.{get_or-drop, get_or-take}
use Rattle.std.proofs.lemmas.Simd.{length-put_chunk, take_more_put_chunk}
use Rattle.hex.specs.Hex.{decode_pairs, pair_value}
use Rattle.hex.proofs.Pairs.{decode_done, prepend}
use Rattle.etcs_digits.proofs.BlockLemmas.{decode_run}
use Rattle.etcs_digits.proofs.HexadecimalLemmas.{decode_more, entry_at, table}
use Rattle.etcs_digits.proofs.hexadecimal.decode_quickly.Goals as goal
use Rattle.etcs_digits.specs.declared.hexadecimal.TheConstants.{HIGH, LOW}

high_is : HIGH ≡ table 16
high_is = refl

low_is : LOW ≡ table 1
low_is = refl

-- sixteen bytes more
pub sixteens-preserved : goal.sixteens-preserved
sixteens-preserved c =
    let s = c.args.text.now in
    let done = c.sixteens.done in
    let bs = c.block-are_digits.result.0 in
    let long = c.block-are_digits.ensures.len in
    let pairs : (j : _) → j < length bs → pair_value (get_or s (2 * (done + j)) 0) (get_or s (2 * (done + j) + 1) 0) (2 * (done + j)) ≡ Ok (get_or bs j 0) =
    λ j lt.
    let t = take (length s - 2 * done) (drop (2 * done) s) in
    let within : 2 * j + 1 < length s - 2 * done = omega (arith, c.requires, c.sixteens.invariant.len) in
    let high : get_or t (2 * j) 0 ≡ get_or s (2 * (done + j)) 0 =
    get_or-take _ (drop (2 * done) s) (2 * j) 0 (omega arith) ∙ get_or-drop (2 * done) s (2 * j) 0 ∙ ap (λ k. get_or s k 0) (omega arith) in
    let low : get_or t (2 * j + 1) 0 ≡ get_or s (2 * (done + j) + 1) 0 =
    get_or-take _ (drop (2 * done) s) (2 * j + 1) 0 within ∙ get_or-drop (2 * done) s (2 * j + 1) 0 ∙ ap (λ k. get_or s k 0) (omega arith) in
    ap₂ (λ a b. pair_value a b (2 * (done + j))) (sym high) (sym low) ∙ c.block-are_digits.ensures.bytes c.if-not-are_digits.false j (2 * (done + j)) (omega arith) in
    record {
      len = length-put_chunk done c.sixteens.out bs ∙ c.sixteens.invariant.len;
      within = omega (arith, length-put_chunk done c.sixteens.out bs);
      so_far =
          decode_run s (take done c.sixteens.out) bs done (omega (arith, c.requires, c.sixteens.invariant.len)) pairs c.sixteens.invariant.so_far
          ∙ ap₂ (λ f k. prepend f (decode_pairs (2 * k) (drop (2 * k) s))) (sym (take_more_put_chunk done c.sixteens.out bs (done + 16) (omega arith) (omega arith))) (omega arith);
    }

pub bytes-preserved : goal.bytes-preserved
bytes-preserved c = (
  c.bytes.invariant.0 ∙ ap (λ n. 2 * n) (sym (length-set c.bytes.out c.bytes.i _)),
  λ low. decode_more c.args.text.now c.bytes.out c.bytes.i c.bytes.seen _ _ (omega (arith, c.bytes.invariant.0)) (omega arith)
      (entry_at HIGH 16 _ high_is (c.type_inv.text _).fits) (entry_at LOW 1 _ low_is (c.type_inv.text _).fits) c.bytes.invariant.1 low,
)

pub returns-clause-value : goal.returns-clause-value
returns-clause-value c = λ small.
    decode_done _ _ c.bytes.i (omega arith) (omega (arith, c.bytes.invariant.0)) (c.bytes.invariant.1 (grind (arith, nat_tests)))
