use Rattle.std.proofs.Common.{take, true, false, sym, ap, ◌∙◌}
use Rattle.std.specs.List.{list_any}
use Rattle.std.proofs.lemmas.Bool.{and_from, lt-ltb, ne_eqb, not_from_false}
use Rattle.etcs_group.specs.Places.{pointed}
use Rattle.etcs_group.proofs.PointedLemmas.{at-pointed, take-pointed, list_any-found, list_any-not_found}
use Rattle.etcs_group.proofs.StepLemmas.{miscounted-is}
use Rattle.etcs_group.proofs.refusal.is_miscounted.Goals as goal

-- One earlier counter that differs settles it.
pub returns-then-other-own : goal.returns-then-other-own
returns-then-other-own c =
    let at = at-pointed c.args.read.now c.args.place c.index-read-place.result c.requires c.index-read-place.is in
    sym (miscounted-is (pointed c.args.read.now) c.args.place c.index-read-place.result.now c.counter-own.result true at (sym c.counter-own.ensures) c.if-own-ge254.false
    (ap (list_any _) (take-pointed c.args.place c.args.read.now) ∙ list_any-found _ (take c.args.place c.args.read.now) c.earlier.earlier-index c.earlier-item.result c.earlier-test.true c.earlier-item.is
    (rw (← c.counter-other.ensures) (and_from _ _ (lt-ltb _ _ c.if-other-lt254.true) (not_from_false _ (ne_eqb _ _ c.if-other-own.true))))))

-- None of them does.
pub returns : goal.returns
returns c =
    let at = at-pointed c.args.read.now c.args.place c.index-read-place.result c.requires c.index-read-place.is in
    sym (miscounted-is (pointed c.args.read.now) c.args.place c.index-read-place.result.now c.counter-own.result false at (sym c.counter-own.ensures) c.if-own-ge254.false
    (ap (list_any _) (take-pointed c.args.place c.args.read.now) ∙ list_any-not_found _ (take c.args.place c.args.read.now) c.earlier.earlier-index c.earlier-test.false c.earlier.invariant))
