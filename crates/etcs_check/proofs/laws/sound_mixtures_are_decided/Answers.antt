use Rattle.etcs_check.proofs.AspectLemmas.{sound_mixtures_are_decided}
use Rattle.etcs_check.proofs.laws.sound_mixtures_are_decided.Goals as goal

-- Each sound aspect makes one message, and the counters distinguish the aspects.
pub returns : goal.returns
returns c = sound_mixtures_are_decided
