-- When a table of fields, the rows of a record and the record of rows agree. Each record then has
-- one spelling, and each spelling is that of a record.
use Rattle.std.specs.Prelude.{◌≡◌, List}
use Rattle.etcs_bits.specs.layout.Rows.{Row, AreAllowed}
use Rattle.etcs_bits.specs.layout.Fields.{Fields, AreRowsOf}

-- The rows of each record are a whole list of its fields. They give that record again. Each whole
-- list of allowed rows is the list of some record's rows.
pub record IsLayout {X : Type 0} (fields : Fields) (rows : X → List Row) (of : List Row → X) : Type 0 where
  pub are_rows : (x : X) → AreRowsOf fields (rows x)
  pub is_record : (x : X) → of (rows x) ≡ x
  pub has_record : (r : List Row) → AreRowsOf fields r → AreAllowed r → (x : X) × (rows x ≡ r)
