use Rattle.etcs_check.proofs.NamedLemmas.{no_finding_means_sound_group}
use Rattle.etcs_check.proofs.laws.no_finding_means_sound_group.Goals as goal

-- Each fact is false if and only if a part of soundness holds.
pub returns : goal.returns
returns c = no_finding_means_sound_group
