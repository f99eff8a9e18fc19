use Rattle.std.proofs.Common.{refl}
use Rattle.std.specs.Fmt.{digits}
use Rattle.etcs_document.specs.ReportText.{direction_words, part_words, rule_words}
use Rattle.etcs_table_check.specs.ReportText.{finding_words, place_words, report_words}
use Rattle.etcs_table_check.proofs.laws.worked_reports.Goals as goal

-- computed
pub returns : goal.returns
unfolding digits direction_words part_words rule_words finding_words place_words report_words
returns c = record { yes = refl; no = refl }
