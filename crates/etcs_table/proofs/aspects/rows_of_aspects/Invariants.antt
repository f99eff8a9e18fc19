use Rattle.std.proofs.Common.{◌≡◌, take, length}
use Rattle.etcs_table.specs.Pointed.{pointed, pointed_lists}
use Rattle.etcs_table.specs.RowLists.{AreAspectLists}
use Rattle.etcs_table.proofs.aspects.rows_of_aspects.Given as goal

-- the rows so far are in the lists of their aspects
abbrev pub invariant-loop-e : goal.invariant-loop-e
invariant-loop-e l = record {
  lists : AreAspectLists (pointed l.names.keys) (pointed l.every.items) (pointed_lists l.aspects.items) (take l.e-index (pointed l.rows));
  as_many : length l.names.keys ≡ length l.aspects.items;
}
