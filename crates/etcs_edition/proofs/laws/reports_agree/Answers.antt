use Rattle.etcs_edition.proofs.ReportLemmas.{read_report, report_read}
use Rattle.etcs_edition.proofs.laws.reports_agree.Goals as goal

pub returns : goal.returns
returns c = λ bytes text. (report_read bytes text, read_report bytes text)
