use Rattle.std.proofs.Common.{◌≡◌, ◌++◌, take, drop, length}
use Rattle.etcs_table.specs.Lists.{with_row_each}
use Rattle.etcs_table.specs.Pointed.{pointed_lists}
use Rattle.etcs_table.proofs.lists.push_each.Given as goal

-- the lists so far have the row
abbrev pub invariant-loop-i : goal.invariant-loop-i
invariant-loop-i l = record {
  now : pointed_lists l.lists.items ≡ with_row_each (take l.i (pointed_lists l.initial.lists.items)) l.row ++ drop l.i (pointed_lists l.initial.lists.items);
  as_many : length l.lists.items ≡ length l.initial.lists.items;
}
