use Rattle.std.proofs.Common.{◌<◌, ◌-◌, length, ap, ◌∙◌, arith, not}
use Rattle.std.proofs.lemmas.Bool.{le-ltb}
use Rattle.etcs_group.specs.Places.{pointed}
use Rattle.etcs_group.proofs.PointedLemmas.{at-pointed}
use Rattle.etcs_group.proofs.StepLemmas.{misplaced-is}
use Rattle.etcs_group.proofs.refusal.is_misplaced.Goals as goal

-- The telegram is not outside, so the one before it decides.
pub returns-then-place-gt0 : goal.returns-then-place-gt0
returns-then-place-gt0 c =
    let s = c.args.read.now in
    let t = c.index-read-place-then-place-gt0.result in
    let u = c.index-read-place.result in
    let before : c.args.place - 1 < length s = omega arith in
    let m = c.total.ensures.value in
    let n = c.position.ensures.value in
    ap not c.are_in_order.ensures
    ∙ misplaced-is c.args.run (pointed s) c.args.place t.now u.now c.if-place-gt0.true
    (at-pointed s (c.args.place - 1) t before c.index-read-place-then-place-gt0.is)
    (at-pointed s c.args.place u c.requires c.index-read-place.is)
    (le-ltb _ _ (omega arith))
