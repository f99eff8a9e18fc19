-- Layouts, as the standard's tables give them (SUBSET-026, 7.4): which variables come, in which
-- order, and which of them come only if an earlier number says so.
use Rattle.std.specs.Prelude.{◌≡◌, ◌≢◌, ℕ, zero, suc, ◌+◌, ◌⊎◌, ◌==◌, true, false, if◌then◌else◌, List, [], ◌∷◌, ◌++◌}
use Rattle.etcs_bits.specs.declared.layout.fault.FaultKind.TheVariants.{Spare}
use Rattle.etcs_bits.specs.layout.Rows.{Variable, Row, row, width}

-- L_PACKET, the length of a packet: it counts all bits of the packet, its own head included
abbrev pub l_packet : Variable
l_packet = record { width = 13; allows = λ _. true; refusal = Spare; closes = false }

infixr 5 ◌▹◌
-- a table of fields
pub data Fields : Type 0 where
  -- no field
  nothing : Fields
  -- a field, and the fields after it, which its number decides
  field : Variable → (ℕ → Fields) → Fields
  -- fields, and then other fields
  ◌▹◌ : Fields → Fields → Fields
  -- L_PACKET and a body, after that many bits of the packet; L_PACKET counts those bits, its own and
  -- the bits of the body
  sized : ℕ → Fields → Fields

-- a field by itself
abbrev pub one : Variable → Fields
one x = field x (λ _. nothing)

-- fields that are present if the qualifier before them is 1
abbrev pub option : Variable → Fields → Fields
option qualifier fields = field qualifier (λ n. if n == 1 then fields else nothing)

-- the fields of an item, n times
abbrev pub times : ℕ → Fields → Fields
times zero item = nothing
times (suc n) item = item ▹ times n item

-- N_ITER, which counts the items, and the items
abbrev pub counted : Variable → Fields → Fields
counted n_iter item = field n_iter (λ n. times n item)

-- The rows are a whole list of these fields.
abbrev pub AreRowsOf : Fields → List Row → Type 0
AreRowsOf nothing rows = rows ≡ []
AreRowsOf (field x next) rows =
    (n : ℕ) × (more : List Row) × (rows ≡ row x n ∷ more) × AreRowsOf (next n) more
AreRowsOf (a ▹ b) rows =
    (first : List Row) × (second : List Row) × (rows ≡ first ++ second)
    × AreRowsOf a first × AreRowsOf b second
AreRowsOf (sized before body) rows =
    (more : List Row) × (rows ≡ row l_packet (before + width rows) ∷ more) × AreRowsOf body more

-- Why an open list is not whole: a field is still due, or a packet is whole and its L_PACKET, this many
-- bits back, is not its width.
pub data Due : Type 0 where
  due : Variable → Due
  differs : ℕ → Due

-- The rows are an open list of these fields: the beginning of a whole list, in which the last
-- L_PACKET may be any number. So of a packet 21 with one element, which has 54 bits: the rows of
-- NID_PACKET, Q_DIR and L_PACKET are open, whatever L_PACKET is, and Q_SCALE is due. All its rows are
-- open where L_PACKET, which begins 44 bits back, is not 54, and differs from the packet's width.
abbrev pub IsOpen : Fields → List Row → Due → Type 0
IsOpen nothing rows d = ⊥
IsOpen (field x next) rows d =
    ((rows ≡ []) × (d ≡ due x))
    ⊎ ((n : ℕ) × (more : List Row) × (rows ≡ row x n ∷ more) × IsOpen (next n) more d)
IsOpen (a ▹ b) rows d =
    IsOpen a rows d
    ⊎ ((first : List Row) × (second : List Row) × (rows ≡ first ++ second)
    × AreRowsOf a first × IsOpen b second d)
IsOpen (sized before body) rows d =
    ((rows ≡ []) × (d ≡ due l_packet))
    ⊎ ((l : ℕ) × (more : List Row) × (rows ≡ row l_packet l ∷ more)
    × (IsOpen body more d
    ⊎ (AreRowsOf body more × (l ≢ before + width rows) × (d ≡ differs (width rows)))))
