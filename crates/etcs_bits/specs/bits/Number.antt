-- Numbers and their bits. A variable of a telegram is an unsigned number, most significant bit
-- first (SUBSET-026, 7.5). A byte has eight bits, in the same order.
use Rattle.std.specs.Prelude.{ℕ, zero, suc, ◌+◌, ◌*◌, ◌/◌, ◌%◌, ◌^◌, ◌==◌, Bool, true, false, List, [], ◌∷◌, ◌++◌, length}

-- the value of a bit in the lowest place
abbrev pub worth : Bool → ℕ
worth true = 1
worth false = 0

-- the number that a list of bits spells, most significant bit first
unfoldable pub num_of_bits : List Bool → ℕ
num_of_bits [] = 0
num_of_bits (bit ∷ bits) = worth bit * 2 ^ length bits + num_of_bits bits

-- the w bits of n, most significant first
unfoldable pub num : ℕ → ℕ → List Bool
num zero n = []
num (suc w) n = (n / 2 ^ w % 2 == 1) ∷ num w n

-- the bits of bytes, eight for each
unfoldable pub bits_of_bytes : List ℕ → List Bool
bits_of_bytes [] = []
bits_of_bytes (byte ∷ bytes) = num 8 byte ++ bits_of_bytes bytes
