use Rattle.std.proofs.Common.{◌≡◌, length, take}
use Rattle.etcs_schema.specs.BodyText.{packed_bytes, padded_bits}
use Rattle.etcs_json.proofs.packets.body_text.bytes_of.Given as goal

-- the bytes so far
abbrev pub invariant-bytes : goal.invariant-bytes
invariant-bytes g l = record { whole : length l.bytes ≡ g.row.BYTES; so_far : take l.i l.bytes ≡ packed_bytes l.i (padded_bits l.bits) }
