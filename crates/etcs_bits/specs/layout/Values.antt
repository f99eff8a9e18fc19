-- Which numbers a variable has, and which values they name.
use Rattle.std.specs.Prelude.{◌≡◌, ◌↔◌, ◌&&◌, ◌^◌, ℕ, true}
use Rattle.std.proofs.Common.{ltb}
use Rattle.etcs_bits.specs.layout.Rows.{Variable, row, IsAllowed}

-- The variable has w bits. P holds for exactly the numbers that fit in them and are allowed.
pub record HasNumbers (x : Variable) (w : ℕ) (P : ℕ → Type 0) : Type 0 where
  pub width : x.width ≡ w
  pub numbers : (n : ℕ) → IsAllowed (row x n) ↔ P n

-- The value has this number.
abbrev pub IsNumberOf : {X : Type 0} → (X → ℕ) → ℕ → Type 0
IsNumberOf {X} number n = (v : X) × (number v ≡ n)

-- The variable has w bits, and its values have exactly the numbers that it allows. `of` gives the
-- value of a number again.
pub record HasValues {X : Type 0} (x : Variable) (w : ℕ) (number : X → ℕ) (of : ℕ → X) : Type 0 where
  pub numbers : HasNumbers x w (IsNumberOf number)
  pub back : (v : X) → of (number v) ≡ v

-- each value has a number that fits and is allowed, and is found again by it
abbrev pub AreNames : {X : Type 0} → Variable → (X → ℕ) → (ℕ → X) → Type 0
AreNames {X} x number of =
    (v : X) → (of (number v) ≡ v) × ((ltb (number v) (2 ^ x.width) && x.allows (number v)) ≡ true)
