use Rattle.std.proofs.Common.{◌≡◌, take}
use Rattle.etcs_bits.specs.bits.Number.{num_of_bits, bits_of_bytes}
use Rattle.etcs_bits.proofs.bits.bytes.few_bytes.Given as goal

abbrev pub invariant-loop-byte : goal.invariant-loop-byte
invariant-loop-byte l = l.total ≡ num_of_bits (bits_of_bytes (take l.byte-index l.bytes))
