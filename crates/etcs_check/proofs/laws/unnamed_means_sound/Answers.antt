use Rattle.etcs_check.proofs.NamedLemmas.{unnamed_means_sound}
use Rattle.etcs_check.proofs.laws.unnamed_means_sound.Goals as goal

-- Each fact about a group or a message has a finding that names it.
pub returns : goal.returns
returns c = unnamed_means_sound
