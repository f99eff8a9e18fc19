-- Packets as views (SUBSET-026, 7.4). A view has the packet itself where its layout is known. Else
-- it has the number, the direction and the body.
use Rattle.std.specs.Prelude.{◌≡◌, List, Result, Ok, Err}
use Rattle.etcs_bits.specs.declared.layout.fault.Fault.{Fault}
use Rattle.etcs_bits.specs.declared.layout.fault.DecodeError.{DecodeError}
use Rattle.etcs_bits.specs.layout.Rows.{Row, Place}
use Rattle.etcs_bits.specs.layout.Results.{Fails}
use Rattle.etcs_profile.specs.declared.track.TrackPacket.{TrackPacket}
use Rattle.etcs_profile.specs.declared.track.TrackPacket.TheVariants as packets
use Rattle.etcs_profile.specs.declared.view.PacketView.{PacketView}
use Rattle.etcs_profile.specs.declared.view.PacketView.TheVariants as views
use Rattle.etcs_profile.specs.Track.{track_packet}

-- the view of a packet
abbrev pub packet_view : TrackPacket → PacketView
packet_view (packets.Raw r) = views.Raw r.number r.dir r.body
packet_view p = views.Known p

-- The view that a function returns is that of the packet that reading gives, and so is the place
-- after it, unless memory ran out.
abbrev pub Shows : Result PacketView DecodeError → Result (List Row × Place) Fault → Place → Type 0
Shows (Ok v) read after = (p : TrackPacket) × (packet_view p ≡ v) × (read ≡ Ok (track_packet.rows p, after))
Shows (Err e) read after = Fails e read
