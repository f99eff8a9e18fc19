-- How far a train may run, and how far profiles describe the track (SUBSET-026, 3.8 and 7.4.2). Gradients and
-- speeds must be known up to the supervised location of each movement authority.
use Rattle.std.specs.Prelude.{◌≡◌, ℕ, ◌≤◌, ◌==◌, List, Option, Some, None, is_some, IsTrue, ⊤}
use Rattle.etcs_profile.specs.declared.track.TrackPacket.{TrackPacket}
use Rattle.etcs_profile.specs.declared.track.TrackPacket.TheVariants as packets
use Rattle.etcs_profile.specs.Authority.{authority_limit}
use Rattle.etcs_profile.specs.Elements.{elements_reach}
use Rattle.etcs_profile.specs.declared.track.gradient.GradientElement.{GradientElement}
use Rattle.etcs_profile.specs.declared.reach.Reach.{Reach}
use Rattle.etcs_profile.specs.declared.reach.Reach.TheVariants.{Ends, Open}
use Rattle.etcs_profile.specs.declared.track.speed.SpeedElement.{SpeedElement}
use Rattle.etcs_group.specs.Places.{At}

-- the supervised location of a movement authority, in decimetres; no other packet has one
abbrev pub packet_limit : TrackPacket → Option ℕ
packet_limit (packets.Authority a) = Some (authority_limit a)
packet_limit p = None

-- how far a gradient profile describes the track, and None for any other packet; the gradient 255 marks
-- its end
abbrev pub gradient_reach : TrackPacket → Option Reach
gradient_reach (packets.Gradient p) =
    Some (elements_reach (λ (e : GradientElement). e.distance) (λ e. e.gradient == 255) p.1)
gradient_reach p = None

-- how far a speed profile describes the track, and None for any other packet; the speed 127 marks its end
abbrev pub speed_reach : TrackPacket → Option Reach
speed_reach (packets.Speed p) =
    Some (elements_reach (λ (e : SpeedElement). e.distance) (λ e. e.speed == 127) p.1)
speed_reach p = None

-- a reach is open, or goes at least up to the location
abbrev pub Reaches : Reach → ℕ → Type 0
Reaches (Ends n) limit = limit ≤ n
Reaches Open limit = ⊤

-- There is a profile of the kind among the packets, and each of them reaches the location.
pub record HasProfiles (reach : TrackPacket → Option Reach) (packets : List TrackPacket)
    (limit : ℕ) : Type 0 where
  pub one : (i : ℕ) × (p : TrackPacket) × At packets i p × IsTrue (is_some (reach p))
  pub each : (i : ℕ) (p : TrackPacket) (r : Reach) → At packets i p → reach p ≡ Some r → Reaches r limit

-- The authorities among the packets are reached by profiles: for each there are gradient and speed
-- profiles, and all profiles reach its supervised location.
abbrev pub AreReached : List TrackPacket → Type 0
AreReached packets =
    (i : ℕ) (a : TrackPacket) (limit : ℕ) → At packets i a → packet_limit a ≡ Some limit
    → HasProfiles gradient_reach packets limit × HasProfiles speed_reach packets limit
