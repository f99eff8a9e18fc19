use Rattle.std.proofs.Common.{◌≡◌, [], take}
use Rattle.std.specs.List.{fold}
use Rattle.etcs_table.specs.Pointed.{pointed_lists}
use Rattle.etcs_table_check.specs.FindingRows.{with_balise}
use Rattle.etcs_table_check.proofs.finding_rows.balise_rows.Given as goal

-- the rows in the aspects so far
abbrev pub invariant-aspects : goal.invariant-aspects
invariant-aspects l = l.rows.items ≡ fold (with_balise l.place) [] (take l.balises-index (pointed_lists l.aspects))
