use Rattle.std.proofs.Common.{◌≡◌, drop}
use Rattle.etcs_table_check.specs.Line.{first_refusal}
use Rattle.etcs_table_check.proofs.telegrams.check_rows.Given as goal

-- none so far is refused
abbrev pub invariant-rows : goal.invariant-rows
invariant-rows l = first_refusal (drop l.row-index l.rows) ≡ first_refusal l.rows
