use Rattle.std.proofs.Common.{sym, true}
use Rattle.etcs_schema.proofs.ListLemmas.{gives_equal, list_counted, list_misfits, list_none}
use Rattle.etcs_schema.proofs.Objects.{fails_as, memory_holds}
use Rattle.etcs_json.proofs.reading.read_list.Goals as goal

pub returns-in-None-clause-gives : goal.returns-in-None-clause-gives
returns-in-None-clause-gives g c = fails_as _ _ _ c.kind.ensures.fault (list_none _ _ _ _ _ c.in-None.ensures)

pub returns-in-Some-items-clause-gives : goal.returns-in-Some-items-clause-gives
returns-in-Some-items-clause-gives g c =
    gives_equal (λ v. v.items) _ _ _ c.read_items.ensures
    (list_counted g.T.Form.codec.of c.args.low c.args.high _ true (rw c.if-fits.true at c.in-Some.ensures) _ c.in-Some-items.ensures)

-- the count is allowed
pub returns-in-Some-items-clause-memory : goal.returns-in-Some-items-clause-memory
returns-in-Some-items-clause-memory g c = memory_holds _ _ (sym (rw c.if-fits.true at c.in-Some.ensures))

pub returns-else-fits-clause-gives : goal.returns-else-fits-clause-gives
returns-else-fits-clause-gives g c = fails_as _ _ _ c.range.ensures.fault (list_misfits g.T.Form.codec.of c.args.low c.args.high _ (rw c.if-fits.false at c.in-Some.ensures))
