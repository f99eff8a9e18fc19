use Rattle.std.proofs.Common.{◌≡◌, ◌≢◌, ◌<◌, ◌+◌, ℕ, arith, drop, get_or, length}
use Rattle.std.proofs.lemmas.Bool.{eq-eqb}
use Rattle.std.proofs.lemmas.Bool.Decides.{nat_tests}
use Rattle.etcs_rows.proofs.QuoteLemmas.{ends_quoted, is_open, reads_pair, stays_paired}
use Rattle.etcs_rows.proofs.quotes.quoted_len.Goals as goal
use Rattle.etcs_rows.proofs.quotes.quoted_len.Goals.{then-end-text-via-then-end-text, then-end-text-via-else-end-text+then-text-end-ne-QUOTE}

-- No quote is left.
pub returns-in_default-clause-open : goal.returns-in_default-clause-open
returns-in_default-clause-open c =
    let at = c.pairs.at in
    let text = c.args.text.now in
    let none : (k : ℕ) → k < length (drop at text) → get_or (drop at text) k 0 ≢ 34 =
    rw (← c.split_at.ensures.back) (λ k below is. c.in_default.ensures k (omega arith) below (eq-eqb (get_or c.split_at.result.1.now k 0) 34 is)) in
    λ _. is_open text at none c.pairs.invariant.read

-- The next quote ends the field.
pub returns-then-end-text-clause-ends : goal.returns-then-end-text-clause-ends
returns-then-end-text-clause-ends c =
    let at = c.pairs.at in
    let text = c.args.text.now in
    let len = c.in-Some.len in
    let before : (k : ℕ) → k < len → get_or (drop at text) k 0 ≢ 34 =
    rw (← c.split_at.ensures.back) (λ k below is. c.in-Some.ensures.0.before k (omega arith) below (eq-eqb (get_or c.split_at.result.1.now k 0) 34 is)) in
    let quote : get_or (drop at text) len 0 ≡ 34 = rw (← c.split_at.ensures.back) (grind (arith, nat_tests, c.in-Some.ensures.1)) in
    let within : at + len < length text = omega (arith, c.in-Some.ensures.0.high, c.split_at.ensures.back_len) in
    ends_quoted text at len within before quote c.pairs.has_quotes c.pairs.invariant.paired c.pairs.invariant.unpaired c.pairs.invariant.read

-- A pair of quotes is next.
pub pairs-preserved : goal.pairs-preserved
pairs-preserved c =
    let at = c.pairs.at in
    let text = c.args.text.now in
    let len = c.in-Some.len in
    let before : (k : ℕ) → k < len → get_or (drop at text) k 0 ≢ 34 =
    rw (← c.split_at.ensures.back) (λ k below is. c.in-Some.ensures.0.before k (omega arith) below (eq-eqb (get_or c.split_at.result.1.now k 0) 34 is)) in
    let quote : get_or (drop at text) len 0 ≡ 34 = rw (← c.split_at.ensures.back) (grind (arith, nat_tests, c.in-Some.ensures.1)) in
    let within : at + len < length text = omega (arith, c.in-Some.ensures.0.high, c.split_at.ensures.back_len) in
    let more : at + len + 1 < length text = omega (arith, within, c.if-end-text.false) in
    let second : get_or text (at + len + 1) 0 ≡ 34 = grind (arith, nat_tests, c.if-text-end-ne-QUOTE.false) in
    record {
      within = omega (arith, more);
      read = reads_pair text at len within before quote more second c.pairs.invariant.paired c.pairs.invariant.read;
      paired = stays_paired text at len within before quote more second c.pairs.invariant.paired;
      unpaired = λ never. cc;
    }
