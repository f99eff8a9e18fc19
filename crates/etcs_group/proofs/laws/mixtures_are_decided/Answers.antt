use Rattle.etcs_group.proofs.MixtureLemmas.{mixtures_are_decided}
use Rattle.etcs_group.proofs.laws.mixtures_are_decided.Goals as goal

-- If one aspect has all that a mixture shows, the mixture is a reading of that aspect.
pub returns : goal.returns
returns c = mixtures_are_decided
