use Rattle.etcs_check.proofs.ProfileLemmas.{gradient-21, speed-27}
use Rattle.etcs_check.proofs.laws.profiles_are_their_packets.Goals as goal

-- No other packet has a reach.
pub returns : goal.returns
returns c = (gradient-21, speed-27)
