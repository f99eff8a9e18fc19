-- The record at the front of a list of rows, found by its table of fields alone. Other rows may
-- follow a whole list of the fields.
-- Pinned by the law a_record_is_read_as_it_is_spelled.
use Rattle.std.specs.Prelude.{List, [], ◌∷◌, ◌++◌}
use Rattle.etcs_bits.specs.layout.Rows.{Row}
use Rattle.etcs_bits.specs.layout.Fields.{Fields, nothing, field, ◌▹◌, sized}

-- the rows of these fields at the front, and the rows after them
unfoldable pub cut : Fields → List Row → List Row × List Row
cut nothing rows = ([], rows)
cut (field x next) [] = ([], [])
cut (field x next) (r ∷ rows) =
    let more = cut (next r.number) rows in (r ∷ more.0, more.1)
cut (a ▹ b) rows =
    let first = cut a rows in
    let second = cut b first.1 in
    (first.0 ++ second.0, second.1)
cut (sized before body) [] = ([], [])
cut (sized before body) (r ∷ rows) = let more = cut body rows in (r ∷ more.0, more.1)
