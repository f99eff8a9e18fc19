use Rattle.etcs_check.specs.Walk.{unmodelled_finding}
use Rattle.etcs_check.proofs.NoteLemmas.{on_err, index_at, each_stands, each_pushed, noted_as, stands_as}
use Rattle.etcs_check.proofs.balise_rules.push_unmodelled.Goals as goal

-- The call allocated for a finding of this packet.
pub returns-in_err-push_if-clause-memory : goal.returns-in_err-push_if-clause-memory
returns-in_err-push_if-clause-memory c =
    let at = index_at c.args.packets.now c.places.place _ c.index-packets-place.result c.places-test.true c.index-packets-place.is in
    on_err _ _ (each_stands (unmodelled_finding c.args.spot c.args.balise) c.args.packets.now c.places.place c.index-packets-place.result at (stands_as _ _ _ c.in_err-push_if.ensures.memory c.is_unmodelled-fact.ensures))

-- The findings of this packet were appended.
pub places-preserved : goal.places-preserved
places-preserved c =
    let at = index_at c.args.packets.now c.places.place _ c.index-packets-place.result c.places-test.true c.index-packets-place.is in
    each_pushed (unmodelled_finding c.args.spot c.args.balise) c.args.packets.now c.places.place c.index-packets-place.result c.places.found.items _ _ at (noted_as _ _ _ _ _ c.in_ok-push_if.ensures.ok c.is_unmodelled-fact.ensures) c.places.invariant
