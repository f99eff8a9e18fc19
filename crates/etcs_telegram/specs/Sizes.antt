-- How long telegrams are (SUBSET-036, 4.3): a short one has 210 user bits, a long one 830. As text,
-- the user bits take 27 or 104 whole bytes. The last six or two bits are pad bits.
use Rattle.std.specs.Prelude.{ℕ, ◌==◌, if◌then◌else◌, Option, Some, None}
use Rattle.etcs_telegram.specs.declared.size.Size.{Size}
use Rattle.etcs_telegram.specs.declared.size.Size.TheVariants.{Short, Long}

-- how many user bits a telegram of this size has
abbrev pub user_bits : Size → ℕ
user_bits Short = 210
user_bits Long = 830

-- the size of a telegram with `n` user bits
abbrev pub size_from_bits : ℕ → Option Size
size_from_bits n = if n == 210 then Some Short else (if n == 830 then Some Long else None)

-- the number of bytes that hold the user bits
abbrev pub byte_count : Size → ℕ
byte_count Short = 27
byte_count Long = 104

-- the number of bits in the last byte that are not user bits
abbrev pub pad_count : Size → ℕ
pad_count Short = 6
pad_count Long = 2
