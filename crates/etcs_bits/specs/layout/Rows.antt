-- A record is a list of rows. Each row is a variable of the standard with a number. The spelling of
-- a record is the bits of these numbers, one after the other without a gap (SUBSET-026, 7.4 and
-- 7.5).
use Rattle.std.specs.Prelude.{◌≡◌, ℕ, ◌+◌, ◌<◌, ◌^◌, Bool, IsTrue, List, [], ◌∷◌, ◌++◌, length, drop}
use Rattle.std.specs.List.{AllByRecursion}
use Rattle.etcs_bits.specs.declared.layout.fault.FaultKind.{FaultKind}
use Rattle.etcs_bits.specs.bits.Number.{num}

-- a variable: how many bits it has, which numbers are allowed, and the fault of one that is not
pub record Variable : Type 0 where
  pub width : ℕ
  pub allows : ℕ → Bool
  pub refusal : FaultKind
  -- whether a list of packets may end in its place, as in that of NID_PACKET; too few bits are then a
  -- NoEnd fault
  pub closes : Bool

-- one variable of a record, with its number
pub record Row : Type 0 where
  pub variable : Variable
  pub number : ℕ

-- a variable with a number
abbrev pub row : Variable → ℕ → Row
row x n = record { variable = x; number = n }

-- the rows of a record that is one variable
unfoldable pub alone : Variable → ℕ → List Row
alone x n = row x n ∷ []

-- the number fits in the bits of its variable, and the variable allows it
abbrev pub IsAllowed : Row → Type 0
IsAllowed r = (r.number < 2 ^ r.variable.width) × IsTrue (r.variable.allows r.number)

-- each row is allowed
abbrev pub AreAllowed : List Row → Type 0
AreAllowed rows = AllByRecursion IsAllowed rows

-- the numbers of the rows, one after the other, without a gap
abbrev pub join : List Row → List Bool
join [] = []
join (r ∷ rows) = num r.variable.width r.number ++ join rows

-- how many bits the rows have
abbrev pub width : List Row → ℕ
width [] = 0
width (r ∷ rows) = r.variable.width + width rows

-- a place in a list of bits
pub record Place : Type 0 where
  pub bits : List Bool
  pub at : ℕ

-- The bits lie between two places of one list: the first of them is at `from`, and `to` is just after
-- the last.
pub record Stands (bits : List Bool) (from to : Place) : Type 0 where
  pub same : to.bits ≡ from.bits
  pub here : drop from.at from.bits ≡ bits ++ drop to.at from.bits
  pub past : to.at ≡ from.at + length bits

-- The record with these rows is spelled from one place up to the other. Each row is allowed, and
-- their join stands there.
pub record IsSpelled (rows : List Row) (from to : Place) : Type 0 where
  pub allowed : AreAllowed rows
  pub stands : Stands (join rows) from to
