use Rattle.std.proofs.Common.{◌≡◌, drop}
use Rattle.etcs_table.specs.Pointed.{pointed}
use Rattle.etcs_table_check.proofs.ReadLemmas.{with_front}
use Rattle.etcs_table_check.specs.Line.{aspect_telegrams}
use Rattle.etcs_table_check.proofs.line.read_aspect.Given as goal

-- what was read, and then what is read of the balises that are left
abbrev pub invariant-balises : goal.invariant-balises
invariant-balises l = with_front l.telegrams.items (aspect_telegrams (drop l.row-index (pointed l.balises))) ≡ aspect_telegrams (pointed l.balises)
