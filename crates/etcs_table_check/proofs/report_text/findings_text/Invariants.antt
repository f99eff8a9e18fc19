use Rattle.std.proofs.Common.{◌≡◌, string_bytes, take}
use Rattle.etcs_table_check.specs.ReportText.{findings_words}
use Rattle.etcs_table_check.proofs.report_text.findings_text.Given as goal

-- the findings so far are in the text
abbrev pub invariant-findings : goal.invariant-findings
invariant-findings l = string_bytes l.text ≡ findings_words (take l.finding-index l.findings)
