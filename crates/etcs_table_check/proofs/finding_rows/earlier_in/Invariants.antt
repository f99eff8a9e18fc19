use Rattle.std.proofs.Common.{◌≡◌, take}
use Rattle.std.specs.List.{fold}
use Rattle.etcs_table.specs.Pointed.{pointed}
use Rattle.etcs_table_check.specs.FindingRows.{earlier}
use Rattle.etcs_table_check.proofs.finding_rows.earlier_in.Given as goal

-- the least row so far
abbrev pub invariant-balises : goal.invariant-balises
invariant-balises l = l.least ≡ fold earlier l.fn.row (take l.e-index (pointed l.balises))
