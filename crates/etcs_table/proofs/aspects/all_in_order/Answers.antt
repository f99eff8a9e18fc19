use Rattle.std.proofs.Common.{◌∙◌, ap, [], ◌∷◌, ◌++◌, map}
use Rattle.std.proofs.lemmas.List.{map-append}
use Rattle.etcs_table.specs.Groups.{in_order}
use Rattle.etcs_table.specs.Pointed.{pointed, pointed_lists}
use Rattle.etcs_table.proofs.LoopLemmas.{front, map-more, values, whole}
use Rattle.etcs_table.proofs.aspects.all_in_order.Goals as goal

pub loop-rows-preserved : goal.loop-rows-preserved
loop-rows-preserved c =
    let aspects = c.args.aspects.now in
    let i = c.loop-rows.rows-index in
    let rows = c.rows-item.result in
    rw c.in_ok-push.ensures.items (
    map-append values c.loop-rows.sorted.items (c.in_ok-ordered.ordered ∷ [])
    ∙ ap (λ l. pointed_lists c.loop-rows.sorted.items ++ l ∷ []) (c.in_ok-ordered.ensures ∙ ap (λ s. in_order (pointed s)) c.deref.ensures.value)
    ∙ map-more in_order (pointed_lists aspects) (pointed_lists c.loop-rows.sorted.items) i (values rows) (front values aspects i rows c.loop-rows-test.true c.rows-item.is) c.loop-rows.invariant
    )

pub returns : goal.returns
returns c = c.loop-rows.invariant ∙ ap (map in_order) (whole values c.args.aspects.now c.loop-rows.rows-index c.loop-rows-test.false)
