use Rattle.std.proofs.Common.{◌≡◌, ℕ, Option, Some, None, refl}
use Rattle.etcs_profile.specs.Authority.{AuthorityValue, parts_by_main}
use Rattle.etcs_profile.specs.declared.track.TrackPacket.{TrackPacket}
use Rattle.etcs_profile.specs.declared.track.TrackPacket.TheVariants as packets
use Rattle.etcs_profile.specs.Track.{authority_number, numbered_authority, track_number, track_numbered, track_parts}
use Rattle.etcs_profile.proofs.laws.a_packet_has_the_number_of_its_layout.Goals as goal

by_main : (main : Option ℕ) (a : AuthorityValue) → authority_number main ≡ track_numbered.number (numbered_authority (parts_by_main main a))
by_main (Some v) a = refl
by_main None a = refl

by_packet : (p : TrackPacket) → track_number p ≡ track_numbered.number (track_parts p)
by_packet (packets.Authority p) = by_main p.main p
by_packet p = refl

-- packet by packet; an authority by whether it has V_MAIN
pub returns : goal.returns
returns c = by_packet
