use Rattle.etcs_profile.proofs.TrackLemmas.{track_join}
use Rattle.etcs_packet.proofs.laws.a_packet_of_a_list_is_spelled_as_by_itself.Goals as goal

pub returns : goal.returns
returns c = track_join
