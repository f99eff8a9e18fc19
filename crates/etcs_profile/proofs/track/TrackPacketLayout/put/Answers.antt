use Rattle.etcs_profile.proofs.TrackLemmas.{track_join}
use Rattle.etcs_profile.proofs.track.TrackPacketLayout.put.Goals as goal

pub returns : goal.returns
returns c = rw (track_join c.args.self.now) c.put_own.ensures
