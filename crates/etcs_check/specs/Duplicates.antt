-- Equal packets and equal telegrams. A packet is the numbers in the rows of its table, in order (SUBSET-026,
-- 7.4.2), so two packets are equal if these numbers are equal.
use Rattle.std.specs.Prelude.{ℕ, ◌==◌, ◌&&◌, Bool, true, false, List, map}
use Rattle.std.specs.Bool.{beq}
use Rattle.std.specs.Cmp.Lexicographic.{pointwise}
use Rattle.etcs_bits.specs.declared.variables.identity.Identity.{Identity}
use Rattle.etcs_bits.specs.variables.Variables.{dup_number, version_number}
use Rattle.etcs_profile.specs.Track.{track_packet}
use Rattle.etcs_profile.specs.declared.run.Run.{Run}
use Rattle.etcs_profile.specs.declared.track.TrackPacket.{TrackPacket}
use Rattle.etcs_telegram.specs.Record.{Telegram}
use Rattle.etcs_telegram.specs.declared.header.Header.{Header}
use Rattle.etcs_telegram.specs.declared.size.Size.{Size}
use Rattle.etcs_telegram.specs.declared.size.Size.TheVariants as sizes
use Rattle.etcs_group.specs.Packets.{held_packets}

-- the numbers in the rows of a packet
abbrev pub packet_numbers : TrackPacket → List ℕ
packet_numbers p = map (λ r. r.number) (track_packet.rows p)

-- ---- two packets
-- Pinned by the law packets_are_their_numbers.

-- whether two packets have equal numbers
abbrev pub same_packet : TrackPacket → TrackPacket → Bool
same_packet p q = pointwise (λ m n. m == n) (packet_numbers p) (packet_numbers q)

-- ---- two telegrams

-- whether two telegrams have equal lists of packets that hold in the running direction
abbrev pub same_held : Run → Telegram → Telegram → Bool
same_held run t u = pointwise same_packet (held_packets run t) (held_packets run u)

-- ---- sizes and headers

-- whether two identities are equal
abbrev pub same_identity : Identity → Identity → Bool
same_identity i j = (i.country == j.country) && (i.group == j.group)

-- whether two sizes are equal
abbrev pub same_size : Size → Size → Bool
same_size sizes.Short sizes.Short = true
same_size sizes.Long sizes.Long = true
same_size m n = false

-- whether two headers are equal
abbrev pub same_header : Header → Header → Bool
same_header g h =
    (version_number g.version == version_number h.version) && ((g.position == h.position)
    && ((g.total == h.total) && ((dup_number g.dup == dup_number h.dup) && ((g.counter == h.counter)
    && (same_identity g.identity h.identity && beq g.linked h.linked)))))

-- ---- equal telegrams
-- Pinned by the law telegrams_are_their_parts.

-- Whether two telegrams have equal sizes, headers and packets. The fill after the end mark is not part of a
-- telegram.
abbrev pub same_telegram : Telegram → Telegram → Bool
same_telegram t u =
    same_size t.size u.size && (same_header t.header u.header && pointwise same_packet t.packets u.packets)
