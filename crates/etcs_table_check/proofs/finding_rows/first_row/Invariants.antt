use Rattle.std.proofs.Common.{◌≡◌, None, take}
use Rattle.std.specs.List.{fold}
use Rattle.etcs_table.specs.Pointed.{pointed_lists}
use Rattle.etcs_table_check.specs.FindingRows.{earlier_in}
use Rattle.etcs_table_check.proofs.finding_rows.first_row.Given as goal

-- the least row of the aspects so far
abbrev pub invariant-aspects : goal.invariant-aspects
invariant-aspects l = l.least ≡ fold earlier_in None (take l.balises-index (pointed_lists l.aspects))
