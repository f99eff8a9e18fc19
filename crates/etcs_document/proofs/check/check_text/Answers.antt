use Rattle.etcs_document.proofs.YesLemmas.{aspects_decided, judged_unnamed, mixtures_decided, sound_says_yes}
use Rattle.etcs_document.proofs.check.check_text.Goals as goal

-- without a finding the line is sound
pub returns-clause-says : goal.returns-clause-says
returns-clause-says c = λ none. sound_says_yes _ _ _ c.in_ok-line.ensures.exact (c.in_ok-findings.ensures.sound.0 none)

pub returns-clause-decided : goal.returns-clause-decided
returns-clause-decided c = aspects_decided _ _ _ c.in_ok-line.ensures.exact

pub returns-clause-mixtures : goal.returns-clause-mixtures
returns-clause-mixtures c = mixtures_decided _ _ _ c.in_ok-line.ensures.exact

-- each finding names its group or its message
pub returns-clause-unnamed : goal.returns-clause-unnamed
returns-clause-unnamed c = judged_unnamed _ _ _ _ c.in_ok-line.ensures.exact c.in_ok-findings.ensures.unnamed
