-- The rows of a table, with the numbers that a spreadsheet gives them, up to the first wrong quote.
use Rattle.std.specs.Prelude.{ℕ, ◌+◌, List, [], ◌∷◌, ◌++◌, Option, None, Some}
use Rattle.etcs_rows.specs.Machine.{Action, Place, after_return, append, closed, end_blank, end_field, end_row, field_start, plain, quoted, refuse, row_start, skip, step}
use Rattle.etcs_rows.specs.declared.error.QuoteFault.TheVariants.{Open}
use Rattle.etcs_rows.specs.declared.error.WrongQuote.{WrongQuote}

-- a row: its number, from 1 on, and the texts of its fields
pub record Row : Type 0 where
  pub number : ℕ
  pub fields : List (List ℕ)

-- the rows of a table that have a field, and the wrong quote at which they end, if there is one
pub record Sheet : Type 0 where
  pub rows : List Row
  pub wrong : Option WrongQuote

-- one row more, in front of others
abbrev pub with_row : Row → Sheet → Sheet
with_row row sheet = record sheet { rows = row ∷ sheet.rows }

-- no row
abbrev pub no_rows : Sheet
no_rows = record { rows = []; wrong = None }

-- no row, for this quote is wrong
abbrev pub wrong_at : WrongQuote → Sheet
wrong_at quote = record { rows = []; wrong = Some quote }

-- the row that is being read: its number, its complete fields, and the text of its field
pub record Unfinished : Type 0 where
  pub place : Place
  pub number : ℕ
  pub fields : List (List ℕ)
  pub field : List ℕ

-- the row that ends here
abbrev pub finished_row : Unfinished → Row
finished_row s = record { number = s.number; fields = s.fields ++ (s.field ∷ []) }

-- the row with this number, of which nothing is read
abbrev pub begun_row : Place → ℕ → Unfinished
begun_row place number = record { place = place; number = number; fields = []; field = [] }

-- the rows from this byte on, given the rows after it
abbrev pub performed : Action → Place → ℕ → Unfinished → (Unfinished → Sheet) → Sheet
performed skip place c s after = after (record s { place = place })
performed append place c s after = after (record s { place = place; field = s.field ++ (c ∷ []) })
performed end_field place c s after =
    after (record s { place = place; fields = s.fields ++ (s.field ∷ []); field = [] })
performed end_row place c s after = with_row (finished_row s) (after (begun_row place (s.number + 1)))
performed end_blank place c s after = after (begun_row place (s.number + 1))
performed (refuse fault) place c s after = wrong_at (record { row = s.number; fault = fault })

-- the rows at the end of the text
abbrev pub finished : Place → Unfinished → Sheet
finished row_start s = no_rows
finished after_return s = no_rows
finished field_start s = with_row (finished_row s) no_rows
finished plain s = with_row (finished_row s) no_rows
finished quoted s = wrong_at (record { row = s.number; fault = Open })
finished closed s = with_row (finished_row s) no_rows

-- the rows of the remaining text
unfoldable pub rows_after : ℕ → Unfinished → List ℕ → Sheet
rows_after delimiter s [] = finished s.place s
rows_after delimiter s (c ∷ rest) =
    performed (step delimiter s.place c).1 (step delimiter s.place c).0 c s (λ t. rows_after delimiter t rest)

-- the rows of a text that begins with this row
abbrev pub rows_from : ℕ → ℕ → List ℕ → Sheet
rows_from delimiter number text = rows_after delimiter (begun_row row_start number) text

-- the rows of a text
abbrev pub rows_of : ℕ → List ℕ → Sheet
rows_of delimiter text = rows_from delimiter 1 text
