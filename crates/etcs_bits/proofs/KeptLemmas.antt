-- Bits that are kept: when L_PACKET can count them.
use Rattle.std.proofs.Common.{◌≡◌, ℕ, ◌+◌, Bool, true, List, length, refl, arith}
use Rattle.std.proofs.lemmas.Bool.{le-leb, leb-true}
use Rattle.etcs_bits.specs.layout.Rows.{AreAllowed}
use Rattle.etcs_bits.specs.layout.Format.{kept_bits}
use Rattle.etcs_bits.specs.layout.Combined.{is_countable}
use Rattle.etcs_bits.proofs.NumberLemmas.{num_of_bits-lt}

-- rows that are allowed have bits that can be counted
pub kept_fit : (before : ℕ) (bits : List Bool) → AreAllowed ((kept_bits before).rows bits) → is_countable before (length bits) ≡ true
kept_fit before bits allowed = le-leb (before + 13 + length bits) 8191 (omega (arith, allowed.0.0))

-- bits that can be counted have rows that are allowed
pub kept_allowed : (before : ℕ) (bits : List Bool) → is_countable before (length bits) ≡ true → AreAllowed ((kept_bits before).rows bits)
kept_allowed before bits fit =
    let few = leb-true (before + 13 + length bits) 8191 fit in
    ((omega (arith, few), le-leb (before + 13) (before + 13 + length bits) (omega arith)), ((num_of_bits-lt bits, refl), tt))
