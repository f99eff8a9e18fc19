use Rattle.std.proofs.Common.{◌≢◌, [], subst}
use Rattle.etcs_check.specs.Aspects.{site_spot}
use Rattle.etcs_check.specs.Findings.{for_each}
use Rattle.etcs_check.specs.Walk.{ambiguous_finding}
use Rattle.etcs_check.proofs.NoteLemmas.{on_err, index_at, each_stands, stands_as}
use Rattle.etcs_check.proofs.aspects.push_ambiguous.Goals as goal

-- The call allocated for a finding of this place.
pub returns-in_err-push_if-clause-memory : goal.returns-in_err-push_if-clause-memory
returns-in_err-push_if-clause-memory c =
    let at = index_at c.first_aspect-first.result.now c.places.place _ c.index-first-place.result c.places-test.true c.index-first-place.is in
    let stands = each_stands (ambiguous_finding c.site_spot-spot.result c.args.aspects.now) c.first_aspect-first.result.now c.places.place c.index-first-place.result at (stands_as _ _ _ c.in_err-push_if.ensures.memory c.is_ambiguous-fact.ensures) in
    on_err _ _ (subst (λ f. for_each f (ambiguous_finding (site_spot c.args.site) c.args.aspects.now) ≢ []) c.first_aspect-first.ensures.value
    (subst (λ s. for_each c.first_aspect-first.result.now (ambiguous_finding s c.args.aspects.now) ≢ []) c.site_spot-spot.ensures stands))
