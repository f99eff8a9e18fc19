use Rattle.etcs_check.proofs.SoundLemmas.{sound_groups_are_decided}
use Rattle.etcs_check.proofs.laws.sound_groups_are_decided.Goals as goal

-- A sound group is well formed, and its counters agree.
pub returns : goal.returns
returns c = sound_groups_are_decided
