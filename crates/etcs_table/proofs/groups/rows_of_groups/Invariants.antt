use Rattle.std.proofs.Common.{◌≡◌, [], take, length}
use Rattle.etcs_table.specs.Pointed.{pointed, pointed_lists}
use Rattle.etcs_table.specs.RowLists.{AreGroupLists}
use Rattle.etcs_table.proofs.groups.rows_of_groups.Given as goal

-- the rows so far are in the lists of their groups
abbrev pub invariant-loop-e : goal.invariant-loop-e
invariant-loop-e l = record {
  lists : AreGroupLists (pointed l.names.keys) (pointed_lists l.lists.items) (take l.e-index l.entries);
  as_many : length l.names.keys ≡ length l.lists.items;
  none : l.every.items ≡ [];
}
