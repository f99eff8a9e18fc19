use Rattle.std.proofs.Common.{◌≡◌, drop, true}
use Rattle.std.specs.List.{list_all}
use Rattle.etcs_table.specs.Pointed.{pointed_lists}
use Rattle.etcs_table_check.proofs.CountLemmas.{has_count}
use Rattle.etcs_table_check.proofs.ReadLemmas.{with_front}
use Rattle.etcs_table_check.specs.Line.{aspect_telegrams, read_each}
use Rattle.etcs_table_check.specs.Shape.{has_size, size}
use Rattle.etcs_table_check.proofs.line.read_group.Given as goal

-- what was read, and then what is read of the aspects that are left; all have one size
abbrev pub invariant-aspects : goal.invariant-aspects
invariant-aspects l = record {
  read : with_front l.aspects.items (read_each aspect_telegrams (drop l.balises-index (pointed_lists l.lists))) ≡ read_each aspect_telegrams (pointed_lists l.lists);
  sized : list_all (has_size (size (pointed_lists l.lists))) (drop l.balises-index (pointed_lists l.lists)) ≡ true;
  made : list_all (has_count (size (pointed_lists l.lists))) l.aspects.items ≡ true;
}
