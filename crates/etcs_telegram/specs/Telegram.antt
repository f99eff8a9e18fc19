-- A telegram of a balise (SUBSET-026, 8.4.2; SUBSET-036, 4.3): its header, its packets, the end
-- mark (packet 255, eight ones), and a fill up to the size of a telegram. The fill carries no
-- information.
use Rattle.std.specs.Prelude.{◌≡◌, ℕ, ◌+◌, ◌-◌, ◌<◌, ◌≤◌, true, List, Bool, ◌++◌, length, replicate, IsSome}
use Rattle.std.specs.List.{flat_map}
use Rattle.etcs_bits.specs.declared.layout.fault.Fault.{Fault}
use Rattle.etcs_bits.specs.bits.Number.{num}
use Rattle.etcs_bits.specs.layout.Rows.{AreAllowed, join, width}
use Rattle.etcs_packet.specs.declared.stop.Stop.TheVariants as stops
use Rattle.etcs_profile.specs.Track.{track_packet}
use Rattle.etcs_packet.specs.Whole.{BeginsWith, IsWholeFault, NoHeadAndListStands, start}
use Rattle.etcs_telegram.specs.Header.{header}
use Rattle.etcs_telegram.specs.Record.{Telegram}
use Rattle.etcs_telegram.specs.Sizes.{user_bits, size_from_bits}

-- some telegram has this many bits
abbrev pub AreUserBits : List Bool → Type 0
AreUserBits bits = IsSome (size_from_bits (length bits))

-- The bits are this telegram. There are as many as its size has. They begin with its header and its
-- packets, up to the first end mark. The bits after that mark carry no information.
pub record IsTelegram (t : Telegram) (bits : List Bool) : Type 0 where
  pub count : length bits ≡ user_bits t.size
  pub begins : BeginsWith stops.Telegram header.rows track_packet.rows t.header t.packets bits

-- The first fault of the bits: a fault of the header, or of the packets after a complete header.
abbrev pub IsTelegramFault : List Bool → Fault → Type 0
IsTelegramFault bits f = IsWholeFault stops.Telegram header.fields track_packet.fields (start bits) f

-- No bits of equal number that begin with these first `end` bits are a telegram.
abbrev pub IsNoTelegram : List Bool → Fault → Type 0
IsNoTelegram bits f = NoHeadAndListStands stops.Telegram header.rows track_packet.rows (start bits) f

-- ---- from a telegram to bits

-- the number of bits of the header, the packets and the end mark
abbrev pub used_bits : Telegram → ℕ
used_bits t = 50 + width (flat_map track_packet.rows t.packets) + 8

-- the header, the packets and the end mark have more bits than the telegram's size
abbrev pub IsTooBig : Telegram → Type 0
IsTooBig t = user_bits t.size < used_bits t

-- the header, the packets and the end mark, one after the other
abbrev pub front_bits : Telegram → List Bool
front_bits t = join (header.rows t.header) ++ (join (flat_map track_packet.rows t.packets) ++ num 8 255)

-- the bits of a telegram, filled up with ones (this project's rule)
abbrev pub canonical_bits : Telegram → List Bool
canonical_bits t = front_bits t ++ replicate (user_bits t.size - used_bits t) true

-- The bits are the telegram's canonical spelling, in which none of its numbers is spare.
pub record IsEncoding (t : Telegram) (bits : List Bool) : Type 0 where
  pub fits : used_bits t ≤ user_bits t.size
  pub header : AreAllowed (header.rows t.header)
  pub packets : AreAllowed (flat_map track_packet.rows t.packets)
  pub canonical : bits ≡ canonical_bits t
