-- How a row is read field by field.
use Rattle.std.specs.Prelude.{◌≡◌, ℕ, ◌+◌, ◌<◌, ◌≤◌, ◌==◌, ◌||◌, Bool, true, false, List, [], ◌∷◌, ◌++◌, if◌then◌else◌, length, slice_index}
use Rattle.etcs_rows.specs.Machine.{Place, closed, field_start, plain, quoted}
use Rattle.etcs_rows.specs.Rows.{Sheet, Unfinished, rows_after, rows_from, with_row, wrong_at}
use Rattle.etcs_rows.specs.declared.error.QuoteFault.{QuoteFault}
use Rattle.etcs_rows.specs.declared.error.QuoteFault.TheVariants.{Open}
use Rattle.etcs_rows.specs.declared.error.RowError.{RowError}
use Rattle.etcs_rows.specs.declared.error.RowError.TheVariants as errors
use Rattle.etcs_rows.specs.declared.fields.FieldEnd.{FieldEnd}
use Rattle.etcs_rows.specs.declared.fields.FieldEnd.TheVariants as ends

-- ---- the text of a field

-- a text with one quote for two; the flag says that the byte before was the first of two
abbrev pub single_after : Bool → List ℕ → List ℕ
single_after first [] = []
single_after true (c ∷ rest) = single_after false rest
single_after false (c ∷ rest) = c ∷ single_after (c == 34) rest

abbrev pub single : List ℕ → List ℕ
single raw = single_after false raw

-- the text of a field with these bytes between its delimiters or quotes
abbrev pub field_text : Bool → List ℕ → List ℕ
field_text has_quotes raw = if has_quotes then single raw else raw

-- ---- what ends a field

-- a byte that ends a field's text, if it is not in quotes
abbrev pub is_end : ℕ → ℕ → Bool
is_end delimiter c = c == delimiter || c == 13 || c == 10

-- a byte that is no part of a field without quotes
abbrev pub is_stop : ℕ → ℕ → Bool
is_stop delimiter c = is_end delimiter c || c == 34

-- ---- the rows from within a row

-- the row with this number and these complete fields, in a field that has this text so far
abbrev pub in_field : ℕ → List (List ℕ) → Place → List ℕ → Unfinished
in_field number fields place field = record { place = place; number = number; fields = fields; field = field }

-- the rows of a text that begins with the next field of this row
abbrev pub rows_in : ℕ → ℕ → List (List ℕ) → List ℕ → Sheet
rows_in delimiter number fields text = rows_after delimiter (in_field number fields field_start []) text

-- the rows of a text after the last of these fields
abbrev pub rows_behind : ℕ → ℕ → List (List ℕ) → FieldEnd → List ℕ → Sheet
rows_behind delimiter number fields ends.Field rest = rows_in delimiter number fields rest
rows_behind delimiter number fields ends.Row rest =
    with_row (record { number = number; fields = fields }) (rows_from delimiter (number + 1) rest)

-- a text begins with a field that has this text, and that ends so
abbrev pub BeginsWithField : ℕ → List ℕ → List ℕ → FieldEnd → List ℕ → Type 0
BeginsWithField delimiter text field end rest = (number : ℕ) (fields : List (List ℕ))
    → rows_in delimiter number fields text ≡ rows_behind delimiter number (fields ++ field ∷ []) end rest

-- a text begins with a field that has a wrong quote
abbrev pub BeginsWrong : ℕ → List ℕ → QuoteFault → Type 0
BeginsWrong delimiter text fault = (number : ℕ) (fields : List (List ℕ))
    → rows_in delimiter number fields text ≡ wrong_at (record { row = number; fault = fault })

-- whether a field may end at this place, if its text is complete
abbrev pub is_complete : Place → Bool
is_complete field_start = true
is_complete plain = true
is_complete closed = true
is_complete _ = false

-- a field ends so in front of this text
abbrev pub EndsField : ℕ → List ℕ → FieldEnd → List ℕ → Type 0
EndsField delimiter text end rest = (place : Place) (number : ℕ) (fields : List (List ℕ)) (field : List ℕ)
    → is_complete place ≡ true
    → rows_after delimiter (in_field number fields place field) text
    ≡ rows_behind delimiter number (fields ++ field ∷ []) end rest

-- the rest of a text is shorter than the text, unless the row ended with the text
abbrev pub IsAhead : FieldEnd → List ℕ → List ℕ → Type 0
IsAhead ends.Field rest text = length rest < length text
IsAhead ends.Row rest text = (length rest ≤ length text) × (0 < length text → length rest < length text)

-- the text goes on, with a byte that ends no field
abbrev pub GoesOn : ℕ → List ℕ → Type 0
GoesOn delimiter text = (0 < length text) × (is_end delimiter (slice_index text 0) ≡ false)

-- ---- fields in quotes

-- After its opening quote a text has these bytes up to the quote that ends the field, and the rest after it.
abbrev pub EndsQuoted : List ℕ → List ℕ → List ℕ → Type 0
EndsQuoted text field rest = (delimiter number : ℕ) (fields : List (List ℕ))
    → rows_after delimiter (in_field number fields quoted []) text
    ≡ rows_after delimiter (in_field number fields closed field) rest

-- After its opening quote a text has no quote that ends the field.
abbrev pub IsOpen : List ℕ → Type 0
IsOpen text = (delimiter number : ℕ) (fields : List (List ℕ))
    → rows_after delimiter (in_field number fields quoted []) text
    ≡ wrong_at (record { row = number; fault = Open })

-- ---- why no row is read

-- the rows end with the wrong quote that the error names; lack of memory names none
abbrev pub Stops : RowError → Sheet → Type 0
Stops errors.Memory sheet = Unit {0}
Stops (errors.Quote quote) sheet = sheet ≡ wrong_at quote
