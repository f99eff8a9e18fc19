-- What the user bits of a telegram mean, as a function of them.
-- Pinned by the law telegrams_are_decoded.
-- Pinned by the law faults_are_meant.
use Rattle.std.specs.Prelude.{ℕ, ◌==◌, if◌then◌else◌, List, Bool, length, Result, Ok, Err}
use Rattle.etcs_bits.specs.declared.layout.fault.Fault.{Fault}
use Rattle.etcs_packet.specs.declared.stop.Stop.TheVariants as stops
use Rattle.etcs_profile.specs.declared.track.TrackPacket.{TrackPacket}
use Rattle.etcs_profile.specs.Track.{track_packet}
use Rattle.etcs_packet.specs.Reading.{read_first_whole}
use Rattle.etcs_telegram.specs.declared.header.Header.{Header}
use Rattle.etcs_telegram.specs.declared.size.Size.{Size}
use Rattle.etcs_telegram.specs.declared.size.Size.TheVariants.{Short, Long}
use Rattle.etcs_telegram.specs.Header.{header}
use Rattle.etcs_telegram.specs.Record.{Telegram}

-- the size of 210 bits, or of 830
abbrev pub short_or_long : ℕ → Size
short_or_long n = if n == 210 then Short else Long

-- a telegram in `n` bits, with this header and these packets
abbrev pub sized_telegram : ℕ → Result (Header × List TrackPacket) Fault → Result Telegram Fault
sized_telegram n (Ok read) = Ok (record { size = short_or_long n; header = read.0; packets = read.1 })
sized_telegram n (Err f) = Err f

-- what 210 or 830 bits mean: their telegram, or their first fault
unfoldable pub read_telegram : List Bool → Result Telegram Fault
read_telegram bits =
    sized_telegram (length bits)
    (read_first_whole stops.Telegram header.fields header.of track_packet.fields track_packet.of bits)
