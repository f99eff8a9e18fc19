-- The numbers of packets from train to track (SUBSET-026, 7.4.3): 0 and 1 are position reports, 255 is
-- the end mark, and packets with any other number keep their bodies as bits.
use Rattle.std.specs.Prelude.{ℕ, ◌==◌, ◌||◌, ◌&&◌, Bool, false, not}
use Rattle.etcs_bits.specs.declared.layout.fault.FaultKind.TheVariants.{Spare}
use Rattle.etcs_bits.specs.layout.Combined.{is_countable}
use Rattle.etcs_bits.specs.layout.Rows.{Variable}
use Rattle.etcs_radio.specs.Report.{report_numbered}

-- whether this is the number of a packet that is neither a position report nor the end mark
abbrev pub is_kept_number : ℕ → Bool
is_kept_number n = not (report_numbered.allows n || (n == 255))

-- Whether a packet of number `n` is kept as bits, and a body of `bits` bits is short enough for
-- L_PACKET, which also counts the bits of NID_PACKET.
abbrev pub is_kept : ℕ → ℕ → Bool
is_kept n bits = is_kept_number n && is_countable 8 bits

-- NID_PACKET of a packet that is kept as bits; any other number is spare
abbrev pub nid_raw : Variable
nid_raw = record { width = 8; allows = is_kept_number; refusal = Spare; closes = false }
