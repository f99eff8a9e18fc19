use Rattle.etcs_profile.proofs.TrackLemmas.{track_width}
use Rattle.etcs_profile.proofs.track.TrackPacketLayout.width.Goals as goal

pub returns : goal.returns
returns c = rw (track_width c.args.self.now) c.own_width.ensures
