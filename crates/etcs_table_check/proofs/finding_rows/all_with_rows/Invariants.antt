use Rattle.std.proofs.Common.{◌≡◌, map, take}
use Rattle.etcs_table_check.specs.FindingRows.{with_rows}
use Rattle.etcs_table_check.proofs.finding_rows.all_with_rows.Given as goal

-- the findings so far have their rows
abbrev pub invariant-found : goal.invariant-found
invariant-found l = l.all.items ≡ map (with_rows l.groups) (take l.finding-index l.found)
