-- Reading fields at a place, as a function. It gives the rows that stand there and the place after
-- them, or the first fault. Each field has to fit, and then its number has to be allowed.
use Rattle.std.specs.Prelude.{ℕ, ◌+◌, ◌-◌, ◌==◌, nat_lt, Bool, true, false, if◌then◌else◌, List, [], ◌∷◌, ◌++◌, length, take, drop, Result, Ok, Err}
use Rattle.etcs_bits.specs.declared.layout.fault.Fault.{Fault}
use Rattle.etcs_bits.specs.declared.layout.fault.FaultKind.TheVariants.{Length}
use Rattle.etcs_bits.specs.bits.Number.{num_of_bits}
use Rattle.etcs_bits.specs.layout.Rows.{Variable, Row, row, Place}
use Rattle.etcs_bits.specs.layout.Fields.{Fields, nothing, field, ◌▹◌, sized, l_packet}
use Rattle.etcs_bits.specs.layout.Fault.{short, lack, refused}

-- the place that many bits further on
abbrev pub forward : Place → ℕ → Place
forward p w = record { bits = p.bits; at = p.at + w }

infixl 10 ◌>>=◌
-- one step, and then another that uses what the first gave; the first fault ends the chain
abbrev pub ◌>>=◌ : {A B : Type 0} → Result A Fault → (A → Result B Fault) → Result B Fault
(Ok x) >>= f = f x
(Err e) >>= f = Err e

-- ---- one field
-- Pinned by the law a_field_is_read_as_it_is_spelled.

-- the number of the next w bits
abbrev pub taken : ℕ → Place → Result (ℕ × Place) Fault
taken w p =
    if nat_lt (length p.bits) (p.at + w) then Err (short p)
    else Ok (num_of_bits (take w (drop p.at p.bits)), forward p w)

-- the number of the next w bits; where packets may end, too few bits are a NoEnd fault
abbrev pub taken_or_closed : Bool → ℕ → Place → Result (ℕ × Place) Fault
taken_or_closed true w p =
    if nat_lt (length p.bits) (p.at + w) then Err (lack true p) else taken w p
taken_or_closed false w p = taken w p

-- the number of a variable, which has to be allowed
abbrev pub read_field : Variable → Place → Result (ℕ × Place) Fault
read_field x p = do
  n ← taken_or_closed x.closes x.width p
  if x.allows n.0 then Ok n else Err (refused x p)

-- ---- a table of fields
-- Pinned by the law a_record_is_read_as_it_is_spelled.
-- Pinned by the law a_fault_is_read_as_it_is_defined.

-- the rows of a table of fields
abbrev pub read_rows : Fields → Place → Result (List Row × Place) Fault
read_rows nothing p = Ok ([], p)
read_rows (field x next) p = do
  n ← read_field x p
  more ← read_rows (next n.0) n.1
  Ok (row x n.0 ∷ more.0, more.1)
read_rows (a ▹ b) p = do
  first ← read_rows a p
  second ← read_rows b first.1
  Ok (first.0 ++ second.0, second.1)
read_rows (sized before body) p = do
  l ← read_field l_packet p
  more ← read_rows body l.1
  if l.0 == before + (more.1.at - p.at)
      then Ok (row l_packet l.0 ∷ more.0, more.1)
      else Err (record { at = p.at; end = more.1.at; why = Length })
