-- A telegram spelled out, as the laws of telegrams have it.
use Rattle.std.specs.Prelude.{◌≡◌, ◌++◌, List, Bool, length}
use Rattle.std.specs.List.{flat_map}
use Rattle.etcs_bits.specs.layout.Rows.{AreAllowed}
use Rattle.etcs_profile.specs.Track.{track_packet}
use Rattle.etcs_telegram.specs.Record.{Telegram}
use Rattle.etcs_telegram.specs.Header.{header}
use Rattle.etcs_telegram.specs.Sizes.{user_bits}
use Rattle.etcs_telegram.specs.Telegram.{front_bits}

-- The bits are the telegram's header, its packets, the end mark and a fill. There are as many of
-- them as the telegram's size has. None of its numbers is spare.
pub record IsCompleteSpelling (t : Telegram) (bits : List Bool) : Type 0 where
  pub fill : List Bool
  pub count : length bits ≡ user_bits t.size
  pub header : AreAllowed (header.rows t.header)
  pub packets : AreAllowed (flat_map track_packet.rows t.packets)
  pub are : bits ≡ front_bits t ++ fill
