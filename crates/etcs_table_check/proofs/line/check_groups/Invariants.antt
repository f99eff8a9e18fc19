use Rattle.std.proofs.Common.{drop}
use Rattle.etcs_table_check.proofs.ReadLemmas.{HasTaken}
use Rattle.etcs_table_check.specs.Line.{groups_read}
use Rattle.etcs_table_check.specs.Shape.{AreShaped}
use Rattle.etcs_table_check.proofs.line.check_groups.Given as goal

-- the groups so far are taken
abbrev pub invariant-groups : goal.invariant-groups
invariant-groups l = record {
  taken : HasTaken l.checker (groups_read (drop l.group-index l.groups)) (groups_read l.groups);
  shaped : AreShaped (drop l.group-index l.groups);
}
