-- The fault of bits that spell no record: the field that has it, why, and how many bits decide it.
-- It is the fault of an open list of fields at the front of the input.
use Rattle.std.specs.Prelude.{◌≡◌, ℕ, ◌+◌, ◌-◌, ◌<◌, ◌^◌, Bool, true, false, ◌⊎◌, List, length, take}
use Rattle.etcs_bits.specs.declared.layout.fault.Fault.{Fault}
use Rattle.etcs_bits.specs.declared.layout.fault.FaultKind.TheVariants.{Short, Length, NoEnd}
use Rattle.etcs_bits.specs.bits.Number.{num}
use Rattle.etcs_bits.specs.layout.Rows.{Variable, Row, Place, Stands, IsSpelled}
use Rattle.etcs_bits.specs.layout.Fields.{Fields, Due, due, differs, IsOpen}

-- the field here does not fit; the input's length decides the fault
abbrev pub short : Place → Fault
short p = record { at = p.at; end = length p.bits; why = Short }

-- Fewer bits are left than the field has. Where a telegram's packets may end, the fault is NoEnd.
-- Any input of equal length has as few bits left there, so no bit past this place decides it.
abbrev pub lack : Bool → Place → Fault
lack true p = record { at = p.at; end = p.at; why = NoEnd }
lack false p = short p

-- the field here has a number that is not allowed
abbrev pub refused : Variable → Place → Fault
refused x p = record { at = p.at; end = p.at + x.width; why = x.refusal }

-- The fault of an open list that ends here. Either the field that is due does not fit, or it fits
-- and its number is not allowed, or the L_PACKET of a whole packet, `back` bits back, is not its
-- width.
abbrev pub IsDueFault : Due → Place → Fault → Type 0
IsDueFault (due x) e fault =
    ((length e.bits < e.at + x.width) × (fault ≡ lack x.closes e))
    ⊎ ((n : ℕ) × (after : Place) × Stands (num x.width n) e after × (n < 2 ^ x.width)
    × (x.allows n ≡ false) × (fault ≡ refused x e))
IsDueFault (differs back) e fault = fault ≡ record { at = e.at - back; end = e.at; why = Length }

-- Some open list of these fields stands here, each row is allowed, and the list has the fault.
pub record IsFault (fields : Fields) (from : Place) (fault : Fault) : Type 0 where
  pub rows : List Row
  pub next : Due
  pub reached : Place
  pub is_open : IsOpen fields rows next
  pub spelled : IsSpelled rows from reached
  pub due_fault : IsDueFault next reached fault

-- A fact of this place in each input of equal length whose first `end` bits are these.
abbrev pub InAnyInput : (Place → Type 0) → Place → Fault → Type 0
InAnyInput P from fault =
    (bits : List Bool) → length bits ≡ length from.bits
    → take fault.end bits ≡ take fault.end from.bits → P (record { bits = bits; at = from.at })

-- No input of equal length with these first `end` bits has such a record here.
abbrev pub NoneBegins : {X : Type 0} → (X → List Row) → Place → Fault → Type 0
NoneBegins {X} rows = InAnyInput (λ p. (x : X) (to : Place) → IsSpelled (rows x) p to → ⊥)
