-- A summary of packets: the greatest supervised location of the authorities, and which profiles there are.
use Rattle.std.specs.Prelude.{ℕ, Bool, ◌||◌, false, max, List, [], ◌∷◌, Option, Some, None, is_some}
use Rattle.std.specs.Option.{option_map_or}
use Rattle.etcs_profile.specs.declared.track.TrackPacket.{TrackPacket}
use Rattle.etcs_profile.specs.declared.reach.Reach.{Reach}
use Rattle.etcs_check.specs.Findings.{falls_short}
use Rattle.etcs_check.specs.Profiles.{packet_limit, gradient_reach, speed_reach}
use Rattle.etcs_check.specs.declared.packet_summary.PacketSummary.{PacketSummary}

-- a profile of the kind, gradient or speed, ends before the location
abbrev pub ends_early : (TrackPacket → Option Reach) → Option ℕ → TrackPacket → Bool
ends_early reach limit p = option_map_or (λ r. option_map_or (falls_short r) limit false) (reach p) false

-- the greater of two locations; None is below every location
abbrev pub greater : Option ℕ → Option ℕ → Option ℕ
greater None o = o
greater (Some m) None = Some m
greater (Some m) (Some n) = Some (max m n)

abbrev pub nothing : PacketSummary
nothing = record { limit = None; has_gradient = false; has_speed = false }

-- the summary of two parts together
abbrev pub both : PacketSummary → PacketSummary → PacketSummary
both s t = record {
  limit = greater s.limit t.limit;
  has_gradient = s.has_gradient || t.has_gradient;
  has_speed = s.has_speed || t.has_speed;
}

abbrev pub by_one : TrackPacket → PacketSummary
by_one p = record {
  limit = packet_limit p;
  has_gradient = is_some (gradient_reach p);
  has_speed = is_some (speed_reach p);
}

abbrev pub packets_summary : List TrackPacket → PacketSummary
packets_summary [] = nothing
packets_summary (p ∷ ps) = both (by_one p) (packets_summary ps)
