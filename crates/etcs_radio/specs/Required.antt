-- Which packets a message must contain (SUBSET-026, 8.6 and 8.7; this project's rule): a movement
-- authority packet 15, a position report packet 0 or 1, at any index.
use Rattle.std.specs.Prelude.{◌==◌, Bool, List}
use Rattle.std.specs.List.{list_any}
use Rattle.etcs_profile.specs.declared.track.TrackPacket.{TrackPacket}
use Rattle.etcs_profile.specs.Track.{track_number}
use Rattle.etcs_radio.specs.declared.train_packet.TrainPacket.{TrainPacket}
use Rattle.etcs_radio.specs.TrainPacket.{is_report}

-- whether a packet is packet 15
abbrev pub is_authority : TrackPacket → Bool
is_authority p = track_number p == 15

-- whether a packet 15 is among these
abbrev pub has_authority : List TrackPacket → Bool
has_authority packets = list_any is_authority packets

-- whether a packet 0 or 1 is among these
abbrev pub has_report : List TrainPacket → Bool
has_report packets = list_any is_report packets
