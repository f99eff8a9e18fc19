use Rattle.etcs_edition.proofs.FindingLemmas.{findings_read, read_findings}
use Rattle.etcs_edition.proofs.laws.findings_agree.Goals as goal

pub returns : goal.returns
returns c = λ groups messages found controlled.
    (findings_read groups messages found controlled, read_findings groups messages found controlled)
