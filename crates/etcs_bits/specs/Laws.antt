-- The laws of every layout, whatever reads or writes it.
use Rattle.std.specs.Prelude.{◌≡◌, ◌≤◌, List, Bool, ◌++◌, length}
use Rattle.etcs_bits.specs.declared.layout.fault.Fault.{Fault}
use Rattle.etcs_bits.specs.layout.Rows.{Place, AreAllowed, join, IsSpelled}
use Rattle.etcs_bits.specs.layout.Fault.{IsFault, NoneBegins}
use Rattle.etcs_bits.specs.layout.Format.{Format}

-- At most one record is spelled at a place, and it has one end.
abbrev pub SpellsOneRecord : {X : Type 0} → Format X → Type 0
SpellsOneRecord {X} x =
    (p q r : Place) (v w : X) → p.at ≤ length p.bits
    → IsSpelled (x.rows v) p q → IsSpelled (x.rows w) p r → (v ≡ w) × (q ≡ r)

-- No spelling begins another: whatever follows a spelling, it is that of one record.
abbrev pub NoSpellingBegins : {X : Type 0} → Format X → Type 0
NoSpellingBegins {X} x =
    (v w : X) (a b : List Bool) → AreAllowed (x.rows v) → AreAllowed (x.rows w)
    → join (x.rows v) ++ a ≡ join (x.rows w) ++ b → (v ≡ w) × (a ≡ b)

-- If a place has a fault, no record is spelled there, in any input with the same length and front.
abbrev pub FaultMeansNone : {X : Type 0} → Format X → Type 0
FaultMeansNone x =
    (p : Place) (f : Fault) → p.at ≤ length p.bits → IsFault x.fields p f → NoneBegins x.rows p f

-- A place has at most one fault.
abbrev pub HasOneFault : {X : Type 0} → Format X → Type 0
HasOneFault x =
    (p : Place) (f g : Fault) → p.at ≤ length p.bits
    → IsFault x.fields p f → IsFault x.fields p g → f ≡ g

-- The four laws of spellings and faults.
pub record HasLayoutLaws {X : Type 0} (x : Format X) : Type 0 where
  pub one_record : SpellsOneRecord x
  pub no_front : NoSpellingBegins x
  pub fault_or_record : FaultMeansNone x
  pub one_fault : HasOneFault x
