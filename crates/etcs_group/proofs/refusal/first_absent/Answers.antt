use Rattle.std.proofs.Common.{sym, arith}
use Rattle.etcs_group.specs.Assembly.{is_absent, position_count}
use Rattle.etcs_group.specs.Places.{pointed}
use Rattle.etcs_group.proofs.PlaceLemmas.{least-at, least-none}
use Rattle.etcs_group.proofs.PointedLemmas.{at-pointed}
use Rattle.etcs_group.proofs.RefusalLemmas.{positions-at}
use Rattle.etcs_group.proofs.refusal.first_absent.Goals as goal

-- The positions before this one have been looked at.
pub returns-then-is_absent : goal.returns-then-is_absent
returns-then-is_absent c =
    let count = positions-at (pointed c.args.read.now) c.index-read-0.result.now (at-pointed c.args.read.now 0 c.index-read-0.result c.requires c.index-read-0.is) in
    let total = c.total-count.ensures.value in
    sym (least-at (position_count (pointed c.args.read.now)) c.positions.wanted (is_absent (pointed c.args.read.now)) (omega arith) (sym c.if-is_absent.ensures) c.positions.invariant)

-- All positions have been looked at.
pub returns : goal.returns
returns c =
    let count = positions-at (pointed c.args.read.now) c.index-read-0.result.now (at-pointed c.args.read.now 0 c.index-read-0.result c.requires c.index-read-0.is) in
    let total = c.total-count.ensures.value in
    sym (least-none (position_count (pointed c.args.read.now)) (is_absent (pointed c.args.read.now)) (λ p lt. c.positions.invariant p (omega arith)))
