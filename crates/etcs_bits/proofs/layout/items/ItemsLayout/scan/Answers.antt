use Rattle.std.proofs.lemmas.Result.{err_from_is_err_and}
use Rattle.etcs_bits.proofs.GrowthLemmas.{items_grow}
use Rattle.etcs_bits.proofs.layout.items.ItemsLayout.scan.Goals as goal

-- memory is asked for only after a count that is not 0
pub returns-in_err-items-clause-memory : goal.returns-in_err-items-clause-memory
returns-in_err-items-clause-memory g c =
    let failed = err_from_is_err_and c.from_residual-in_err-items.result c.from_residual-in_err-items.ensures.1 in
    rw (failed.1, failed.2) (items_grow c.in_err-items.field-0.0 c.args.cur.now c.take.new.self c.in_ok-count.count c.in_ok-count.ensures.exact c.in_err-items.ensures.memory)
