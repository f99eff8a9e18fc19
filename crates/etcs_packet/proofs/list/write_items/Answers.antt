use Rattle.std.proofs.Common.{◌≡◌, false, sym, ◌∙◌}
use Rattle.std.specs.Result.{is_err}
use Rattle.etcs_bits.proofs.ListLemmas.{item_allowed, item_put}
use Rattle.etcs_packet.proofs.ListLemmas.{was_done}
use Rattle.etcs_packet.proofs.list.write_items.Goals as goal

-- each packet is allowed, as all are
pub write-done-requires : goal.write-done-requires
write-done-requires g c =
    item_allowed g.T.Layout.format.rows c.args.items.now c.items.item-index c.item-item.result
    (record { inside = c.items-test.true; is = c.item-item.is }) c.requires

-- the spelling of the packet stands after those before it
pub items-preserved : goal.items-preserved
items-preserved g c =
    let done : is_err c.write-done.result ≡ false = sym c.is_err.ensures.value ∙ c.if-is_err.false in
    item_put g.T.Layout.format.rows c.args.items.now c.items.item-index c.item-item.result c.args.out.now c.items.out c.write-done.new.out
    (record { inside = c.items-test.true; is = c.item-item.is }) c.items.invariant (was_done c.write-done.result done c.write-done.ensures.ok)
