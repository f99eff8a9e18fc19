-- What a telegram holds (SUBSET-026, 8.4.2): its size, its header and its packets. The fill after
-- the end mark carries no information.
use Rattle.std.specs.Prelude.{List}
use Rattle.etcs_profile.specs.declared.track.TrackPacket.{TrackPacket}
use Rattle.etcs_telegram.specs.declared.header.Header.{Header}
use Rattle.etcs_telegram.specs.declared.size.Size.{Size}

pub record Telegram : Type 0 where
  pub size : Size
  pub header : Header
  pub packets : List TrackPacket
