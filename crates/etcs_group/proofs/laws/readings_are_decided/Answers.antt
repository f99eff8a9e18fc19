use Rattle.etcs_group.proofs.DecidedLemmas.{readings_are_decided}
use Rattle.etcs_group.proofs.laws.readings_are_decided.Goals as goal

-- In a reading only a position can be absent, and it is absent if its place is lost.
pub returns : goal.returns
returns c = readings_are_decided
