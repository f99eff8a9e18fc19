-- The numbers of packets (SUBSET-026, 7.4.2): those of `KNOWN` have a layout that is known here, 255 is
-- the end mark, and packets with any other number keep their bodies as bits.
use Rattle.std.specs.Prelude.{ℕ, ◌==◌, ◌||◌, ◌&&◌, Bool, false, true, not}
use Rattle.std.specs.List.{list_any}
use Rattle.etcs_bits.specs.declared.layout.fault.FaultKind.TheVariants.{Spare}
use Rattle.etcs_bits.specs.layout.Combined.{is_countable}
use Rattle.etcs_bits.specs.layout.Rows.{Variable}
use Rattle.etcs_profile.specs.declared.track.TheConstants.{KNOWN}

-- whether this is the number of a packet whose layout is known: `track_numbered` has a layout for each of
-- these numbers, and for no other but those that are kept as bits
abbrev pub is_known : ℕ → Bool
is_known n = list_any (λ k. n == k) KNOWN

-- whether this is the number of a packet that is neither known nor the end mark
abbrev pub is_kept_number : ℕ → Bool
is_kept_number n = not (is_known n || (n == 255))

-- Whether a packet of number `n` is kept as bits, and a body of `bits` bits is short enough for
-- L_PACKET, which NID_PACKET and Q_DIR stand before.
abbrev pub is_kept : ℕ → ℕ → Bool
is_kept n bits = is_kept_number n && is_countable 10 bits

-- NID_PACKET of a packet that is kept as bits; any other number is spare
abbrev pub nid_raw : Variable
nid_raw = record { width = 8; allows = is_kept_number; refusal = Spare; closes = false }

-- NID_PACKET of a packet in a list: any number but 255, the end mark. The list may end in its
-- place.
abbrev pub nid_track : Variable
nid_track = record { width = 8; allows = λ n. not (n == 255); refusal = Spare; closes = true }
