use Rattle.std.proofs.Common.{◌≤◌, length}
use Rattle.std.proofs.lemmas.Result.{err_from_is_err_and}
use Rattle.etcs_bits.proofs.LayoutLemmas.{is_spelled, is_fault, none_begins}
use Rattle.etcs_bits.proofs.layout.Layout.read.Goals as goal

-- the fault of reading at the fork is that of an open list at the cursor
pub returns-in_err-value-clause-fault : goal.returns-in_err-value-clause-fault
returns-in_err-value-clause-fault g c =
    let p = err_from_is_err_and c.from_residual.result c.from_residual.ensures.1 in
    let within : c.args.cur.now.at ≤ length c.args.cur.now.bits = rw c.fork-ahead.ensures.same at c.fork-ahead.ensures.inside in
    rw (p.1, p.2) (is_fault c.in_err-value.field-0.0 g.Self.Layout.format.fields c.args.cur.now within (rw c.fork-ahead.ensures.same at c.in_err-value.ensures.gives))

-- where reading has a fault, no record stands
pub returns-in_err-value-clause-none : goal.returns-in_err-value-clause-none
returns-in_err-value-clause-none g c =
    let p = err_from_is_err_and c.from_residual.result c.from_residual.ensures.1 in
    let within : c.args.cur.now.at ≤ length c.args.cur.now.bits = rw c.fork-ahead.ensures.same at c.fork-ahead.ensures.inside in
    rw (p.1, p.2) (none_begins g.Self.Layout.format.rows c.in_err-value.field-0.0 g.Self.Layout.format.fields c.args.cur.now within g.Self.Layout.format.laid.are_rows (rw c.fork-ahead.ensures.same at c.in_err-value.ensures.gives))

-- the rows that reading gives are spelled there
pub returns-clause-ok : goal.returns-clause-ok
returns-clause-ok g c =
    let within : c.args.cur.now.at ≤ length c.args.cur.now.bits = rw c.fork-ahead.ensures.same at c.fork-ahead.ensures.inside in
    is_spelled g.Self.Layout.format.fields (g.Self.Layout.format.rows c.in_ok-value.value) c.args.cur.now c.scan.new.cur within (rw c.fork-ahead.ensures.same at c.in_ok-value.ensures.gives)
