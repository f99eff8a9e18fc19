-- Lists of packets, read as views (SUBSET-026, 7.4).
use Rattle.std.specs.Prelude.{◌≡◌, Option, Some, None}
use Rattle.etcs_bits.specs.layout.Rows.{Place}
use Rattle.etcs_profile.specs.declared.track.TrackPacket.{TrackPacket}
use Rattle.etcs_profile.specs.declared.view.PacketView.{PacketView}
use Rattle.etcs_profile.specs.Track.{track_packet}
use Rattle.etcs_profile.specs.View.{packet_view}
use Rattle.etcs_packet.specs.declared.stop.Stop.{Stop}
use Rattle.etcs_packet.specs.Lists.{IsStep}

-- One step of a list, seen by a view: none where the list ends, else that of the packet that stands
-- here.
abbrev pub IsViewStep : Stop → Option PacketView → Place → Place → Type 0
IsViewStep stop None from to = IsStep stop track_packet.rows None from to
IsViewStep stop (Some v) from to =
    (p : TrackPacket) × (packet_view p ≡ v) × IsStep stop track_packet.rows (Some p) from to
