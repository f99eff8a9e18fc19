use Rattle.std.proofs.Common.{◌≡◌, drop, map, take}
use Rattle.etcs_table.specs.Groups.{first_of, group_fault, group_names, group_of}
use Rattle.etcs_table.specs.Pointed.{pointed_lists}
use Rattle.etcs_table.proofs.groups.groups_of_entries.Given as goal

-- the groups so far are made, and none of them has a fault
abbrev pub invariant-loop-i : goal.invariant-loop-i
invariant-loop-i l = record {
  made : l.groups.items ≡ map (group_of l.entries) (take l.i (group_names l.entries));
  sound : first_of group_fault (drop l.i (pointed_lists l.lists)) ≡ first_of group_fault (pointed_lists l.lists);
}
