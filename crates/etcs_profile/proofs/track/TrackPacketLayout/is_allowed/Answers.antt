use Rattle.etcs_profile.proofs.TrackLemmas.{track_allowed}
use Rattle.etcs_profile.proofs.track.TrackPacketLayout.is_allowed.Goals as goal

pub returns-clause-allowed : goal.returns-clause-allowed
returns-clause-allowed c = (λ _. track_allowed c.args.self.now c.is_sound.ensures.allowed, λ _. c.is_sound.ensures.always)
