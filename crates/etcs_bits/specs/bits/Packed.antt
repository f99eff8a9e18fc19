-- When bytes hold a list of bits: there are as many bytes as the bits take, and the bits after the
-- last one are zeros.
use Rattle.std.specs.Prelude.{◌≡◌, ℕ, ◌+◌, ◌*◌, ◌<◌, ◌≤◌, List, length, drop}
use Rattle.etcs_bits.specs.bits.Number.{num_of_bits, bits_of_bytes}

pub record IsPacked (bytes : List ℕ) (len : ℕ) : Type 0 where
  pub within : len ≤ 8 * length bytes
  pub tight : 8 * length bytes < len + 8
  pub zeros : num_of_bits (drop len (bits_of_bytes bytes)) ≡ 0
