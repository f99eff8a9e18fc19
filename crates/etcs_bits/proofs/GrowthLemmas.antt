-- Where reading a part of a record ran out of memory, the record grows.
use Rattle.std.proofs.Common.{◌≡◌, ◌⊎◌, ◌<◌, ℕ, List, Ok, refl, inl, inr}
use Rattle.etcs_bits.specs.declared.layout.fault.DecodeError.{DecodeError}
use Rattle.etcs_bits.specs.declared.layout.fault.DecodeError.TheVariants as errors
use Rattle.etcs_bits.specs.layout.Rows.{Row, Place}
use Rattle.etcs_bits.specs.layout.Fields.{Fields}
use Rattle.etcs_bits.specs.layout.Reading.{read_rows, taken}
use Rattle.etcs_bits.specs.layout.Results.{OfMemory}
use Rattle.etcs_bits.specs.layout.Growth.{GrowsAfter, EitherGrows, GrowsIfThere, HasItems, GrowsBehindLength}

-- what grows nowhere never runs out of memory
pub never_grows : (e : DecodeError) (P : Type 0) → OfMemory e ⊥ → OfMemory e P
never_grows errors.Memory P none = absurd none
never_grows (errors.Fault f) P none = tt

-- a record after fields
pub after_grows : (e : DecodeError) (fields : Fields) (Grows : Place → Type 0) (p q : Place) (rows : List Row)
    → read_rows fields p ≡ Ok (rows, q) → OfMemory e (Grows q) → OfMemory e (GrowsAfter fields Grows p)
after_grows errors.Memory fields Grows p q rows read grows = (rows, q, read, grows)
after_grows (errors.Fault f) fields Grows p q rows read grows = tt

-- the first of two records
pub first_grows : (e : DecodeError) (First : Place → Type 0) (fields : Fields) (Second : Place → Type 0) (p : Place)
    → OfMemory e (First p) → OfMemory e (EitherGrows First fields Second p)
first_grows errors.Memory First fields Second p grows = inl grows
first_grows (errors.Fault f) First fields Second p grows = tt

-- the second of two records
pub second_grows : (e : DecodeError) (First : Place → Type 0) (fields : Fields) (Second : Place → Type 0) (p q : Place) (rows : List Row)
    → read_rows fields p ≡ Ok (rows, q) → OfMemory e (Second q) → OfMemory e (EitherGrows First fields Second p)
second_grows errors.Memory First fields Second p q rows read grows = inr (rows, q, read, grows)
second_grows (errors.Fault f) First fields Second p q rows read grows = tt

-- the record after its qualifier
pub there_grows : (e : DecodeError) (Grows : Place → Type 0) (p q : Place) (n : ℕ)
    → taken 1 p ≡ Ok (n, q) → n ≡ 1 → OfMemory e (Grows q) → OfMemory e (GrowsIfThere Grows p)
there_grows errors.Memory Grows p q n read is grows = (q, rw (read, is) refl, grows)
there_grows (errors.Fault f) Grows p q n read is grows = tt

-- items after their count
pub items_grow : (e : DecodeError) (p q : Place) (n : ℕ)
    → taken 5 p ≡ Ok (n, q) → OfMemory e (0 < n) → OfMemory e (HasItems p)
items_grow errors.Memory p q n read some = (n, q, rw read refl, some)
items_grow (errors.Fault f) p q n read some = tt

-- the record after L_PACKET
pub body_grows : (e : DecodeError) (Grows : Place → Type 0) (p q : Place) (l : ℕ)
    → taken 13 p ≡ Ok (l, q) → OfMemory e (Grows q) → OfMemory e (GrowsBehindLength Grows p)
body_grows errors.Memory Grows p q l read grows = (l, q, rw read refl, grows)
body_grows (errors.Fault f) Grows p q l read grows = tt
