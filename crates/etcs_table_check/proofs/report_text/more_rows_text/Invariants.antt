use Rattle.std.proofs.Common.{◌≡◌, string_bytes, take}
use Rattle.std.specs.Prelude.{flat_map}
use Rattle.etcs_table_check.specs.ReportText.{row_words}
use Rattle.etcs_table_check.proofs.report_text.more_rows_text.Given as goal

-- the rows so far are in the text
abbrev pub invariant-rows : goal.invariant-rows
invariant-rows l = string_bytes l.text ≡ flat_map row_words (take l.row-index l.rows)
