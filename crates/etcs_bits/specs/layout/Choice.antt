-- Sums: a number that decides which record follows it, such as NID_PACKET or M_LEVELTR (SUBSET-026,
-- 7.4 and 7.5).
use Rattle.std.specs.Prelude.{◌≡◌, ℕ, ◌==◌, ◌⊎◌, if◌then◌else◌, Bool, true, List, Result, Ok}
use Rattle.std.proofs.Common.{inl, inr}
use Rattle.etcs_bits.specs.declared.layout.fault.Fault.{Fault}
use Rattle.etcs_bits.specs.layout.Rows.{Row, Place, AreAllowed}
use Rattle.etcs_bits.specs.layout.Fields.{Fields, AreRowsOf}
use Rattle.etcs_bits.specs.layout.Reading.{◌>>=◌, read_rows}

-- values of which each has a number, and behind it the record that the number decides
pub record Choice (X : Type 0) : Type 0 where
  -- the numbers that are allowed
  pub allows : ℕ → Bool
  -- the fields that follow each number
  pub next : ℕ → Fields
  -- the number of a value
  pub number : X → ℕ
  -- the rows that follow the number of a value
  pub rows : X → List Row
  -- the value of a number and the rows that follow it
  pub of : ℕ → List Row → X
  -- the number of a value is allowed
  pub is_number : (x : X) → allows (number x) ≡ true
  -- the rows of a value are a whole list of the fields of its number
  pub are_rows : (x : X) → AreRowsOf (next (number x)) (rows x)
  -- a value is read as itself
  pub is_value : (x : X) → of (number x) (rows x) ≡ x
  -- allowed rows that are a whole list of a number's fields belong to a value with that number
  pub has_value : (n : ℕ) (more : List Row) → allows n ≡ true → AreRowsOf (next n) more → AreAllowed more
      → (x : X) × (number x ≡ n) × (rows x ≡ more)

-- the number of a value, and the rows that follow it
abbrev pub numbered_rows : {X : Type 0} → Choice X → X → ℕ × List Row
numbered_rows c x = (c.number x, c.rows x)

-- what reading the record of number n gives: the number, the rows and the place after them
abbrev pub read_chosen : {X : Type 0} → Choice X → ℕ → Place → Result ((ℕ × List Row) × Place) Fault
read_chosen c n p = read_rows (c.next n) p >>= λ read. Ok ((n, read.0), read.1)

-- ---- the number k, or another one

abbrev pub either_allows : ℕ → (ℕ → Bool) → ℕ → Bool
either_allows k allows n = if n == k then true else allows n

abbrev pub either_next : ℕ → Fields → (ℕ → Fields) → ℕ → Fields
either_next k a next n = if n == k then a else next n

abbrev pub either_number : {A B : Type 0} → ℕ → (B → ℕ) → A ⊎ B → ℕ
either_number k number (inl x) = k
either_number k number (inr y) = number y

abbrev pub either_rows : {A B : Type 0} → (A → List Row) → (B → List Row) → A ⊎ B → List Row
either_rows rows_a rows_b (inl x) = rows_a x
either_rows rows_a rows_b (inr y) = rows_b y
