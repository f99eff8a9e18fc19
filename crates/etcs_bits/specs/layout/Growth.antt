-- Where reading a record may ask for memory: only at a count of items that is not 0, and at bits that are
-- copied. A record grows at a place if reading comes to such a part there, before any fault.
use Rattle.std.specs.Prelude.{◌≡◌, ◌<◌, ◌⊎◌, ℕ, List, Ok}
use Rattle.etcs_bits.specs.layout.Rows.{Row, Place}
use Rattle.etcs_bits.specs.layout.Fields.{Fields, l_packet}
use Rattle.etcs_bits.specs.layout.Combined.{qualifier, n_iter}
use Rattle.etcs_bits.specs.layout.Reading.{read_field, read_rows}

-- the fields are read without a fault, and the record after them grows
abbrev pub GrowsAfter : Fields → (Place → Type 0) → Place → Type 0
GrowsAfter fields Grows p =
    (rows : List Row) × (q : Place) × (read_rows fields p ≡ Ok (rows, q)) × Grows q

-- the first of two records grows, or the second, which begins where the first ends
abbrev pub EitherGrows : (Place → Type 0) → Fields → (Place → Type 0) → Place → Type 0
EitherGrows First fields Second p = First p ⊎ GrowsAfter fields Second p

-- the qualifier is 1, and the record after it grows
abbrev pub GrowsIfThere : (Place → Type 0) → Place → Type 0
GrowsIfThere Grows p = (q : Place) × (read_field qualifier p ≡ Ok (1, q)) × Grows q

-- N_ITER is there, and is not 0
abbrev pub HasItems : Place → Type 0
HasItems p = (n : ℕ) × (q : Place) × (read_field n_iter p ≡ Ok (n, q)) × (0 < n)

-- L_PACKET is there, and the record after it grows
abbrev pub GrowsBehindLength : (Place → Type 0) → Place → Type 0
GrowsBehindLength Grows p = (l : ℕ) × (q : Place) × (read_field l_packet p ≡ Ok (l, q)) × Grows q
