use Rattle.std.proofs.Common.{arith}
use Rattle.etcs_bits.proofs.ListLemmas.{item_width}
use Rattle.etcs_bits.proofs.layout.items.width_of.Goals as goal

pub items-preserved : goal.items-preserved
items-preserved g c =
    let more = item_width g.T.Layout.format.rows c.args.items.now c.items.item-index c.item-item.result
    (record { inside = c.items-test.true; is = c.item-item.is }) in
    omega (arith, more, c.items.invariant, c.width.ensures, c.saturating_add-sum.ensures)
