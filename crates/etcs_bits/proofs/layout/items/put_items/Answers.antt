use Rattle.std.proofs.lemmas.Result.{err_from_is_err_and}
use Rattle.etcs_bits.proofs.ListLemmas.{item_allowed, item_put}
use Rattle.etcs_bits.proofs.PutLemmas.{keeps_front}
use Rattle.etcs_bits.proofs.layout.items.put_items.Goals as goal

pub put-requires : goal.put-requires
put-requires g c =
    item_allowed g.T.Layout.format.rows c.args.items.now c.items.item-index c.item-item.result
    (record { inside = c.items-test.true; is = c.item-item.is }) c.requires

pub returns-in_err-put : goal.returns-in_err-put
returns-in_err-put g c =
    let failed = err_from_is_err_and c.from_residual.result c.from_residual.ensures.1 in
    rw failed.1 (keeps_front _ c.args.out.now c.items.out c.put.new.out c.items.invariant c.in_err-put.ensures)

pub items-preserved : goal.items-preserved
items-preserved g c =
    item_put g.T.Layout.format.rows c.args.items.now c.items.item-index c.item-item.result c.args.out.now c.items.out c.put.new.out
    (record { inside = c.items-test.true; is = c.item-item.is }) c.items.invariant c.in_ok-put.ensures
