use Rattle.etcs_rows.proofs.QuoteLemmas.{keeps, skips}
use Rattle.etcs_rows.proofs.quotes.push_single.Goals as goal
use Rattle.etcs_rows.proofs.quotes.push_single.Goals.{then-is_first, else-is_first+in_ok-push}

-- The byte is the second quote of a pair, or it is kept.
pub loop-byte-preserved : goal.loop-byte-preserved
loop-byte-preserved c = elim c.if-is_first.branch [
  | then-is_first w ↦ rw (w.out-is, w.is_first-is) (skips c.loop-byte.out.items c.args.raw.now _ c.loop-byte.is_first c.loop-byte.byte-index c.loop-byte-test.true w.if-is_first.true c.loop-byte.invariant)
  | else-is_first+in_ok-push w ↦ rw (w.out-is, w.is_first-is, w.in_ok-push.ensures.items) (keeps c.loop-byte.out.items c.args.raw.now _ c.loop-byte.is_first c.loop-byte.byte-index c.loop-byte-test.true w.if-is_first.false c.loop-byte.invariant)
]
