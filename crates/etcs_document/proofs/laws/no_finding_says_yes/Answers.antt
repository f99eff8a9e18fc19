use Rattle.etcs_document.proofs.YesLemmas.{no_finding_says_yes}
use Rattle.etcs_document.proofs.laws.no_finding_says_yes.Goals as goal

-- A line without a finding is sound, and what a yes states is true for a sound line.
pub returns : goal.returns
returns c = no_finding_says_yes
