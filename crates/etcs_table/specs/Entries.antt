-- The entries of a table: a row with a telegram each. The table has a heading row, and below it a row for each telegram,
-- with the name of its balise group. The rows are those of `etcs_rows`, with the numbers that a spreadsheet gives them.
-- Everything in this file is a part of `entries_of`, at the end: the entries of a table, or its first fault.
use Rattle.std.specs.Prelude.{ℕ, ◌+◌, ◌*◌, ◌-◌, ◌==◌, not, nat_lt, fold, Bool, List, [], ◌∷◌, ◌++◌, drop, filter, if◌then◌else◌, length, map, slice_index_or, Option, None, Some, Result, Ok, Err}
use Rattle.std.specs.List.{list_all, list_any}
use Rattle.std.specs.Str.{is_utf8}
use Rattle.etcs_rows.specs.Machine.{delimiter_byte}
use Rattle.etcs_rows.specs.Rows.{Row, Sheet, rows_of}
use Rattle.etcs_rows.specs.declared.delimiter.Delimiter.{Delimiter}
use Rattle.etcs_rows.specs.declared.error.WrongQuote.{WrongQuote}
use Rattle.etcs_table.specs.Faults.{all_checks, first_fault, or_else, or_fault}
use Rattle.etcs_table.specs.Heading.{Words, above_checks, columns_of, delimiters_of, heading_checks, is_heading}
use Rattle.etcs_table.specs.Text.{digits_of, has_edge, is_decimal, is_empty, is_hexadecimal, without_mark}
use Rattle.etcs_table.specs.declared.columns.Columns.{Columns}
use Rattle.etcs_table.specs.declared.error.Column.TheVariants as column
use Rattle.etcs_table.specs.declared.error.TableFault.{TableFault}
use Rattle.etcs_table.specs.declared.error.TableFault.TheVariants.{BlankEdge, Empty, Lacking, NoHeading, NotANumber, NotHexadecimal, NotUtf8, Quote, TooWide, TwoDelimiters}

-- a row that has a telegram; without a column of aspects each aspect is empty
pub record Entry : Type 0 where
  pub row : ℕ
  pub group : List ℕ
  pub aspect : List ℕ
  pub number : Option ℕ
  pub digits : List ℕ

abbrev pub field_of : List (List ℕ) → ℕ → List ℕ
field_of fields column = slice_index_or fields column []

abbrev pub optional_field : List (List ℕ) → Option ℕ → List ℕ
optional_field fields None = []
optional_field fields (Some column) = field_of fields column

abbrev pub has_text : List (List ℕ) → Bool
has_text fields = list_any (λ field. not (is_empty field)) fields

-- the number of a balise: none if the field is empty
abbrev pub number_of : List ℕ → Option ℕ
number_of field = if is_empty field then None else Some (fold (λ n c. n * 10 + (c - 48)) 0 field)

abbrev pub entry_of : Columns → Row → Entry
entry_of columns row = record {
  row = row.number;
  group = field_of row.fields columns.group;
  aspect = optional_field row.fields columns.aspect;
  number = number_of (optional_field row.fields columns.balise);
  digits = digits_of (field_of row.fields columns.telegram);
}

-- what is wrong with a row that has these texts in its columns; is there text to the right of the headings?
abbrev pub text_checks : ℕ → List ℕ → List ℕ → List ℕ → List ℕ → Bool → List (Bool × TableFault)
text_checks row group telegram aspect balise is_wide =
    (is_empty group, Lacking row column.Group)
    ∷ (is_empty telegram, Lacking row column.Telegram)
    ∷ (is_wide, TooWide row)
    ∷ (has_edge group, BlankEdge row column.Group)
    ∷ (has_edge aspect, BlankEdge row column.Aspect)
    ∷ (not (list_all is_hexadecimal (digits_of telegram)), NotHexadecimal row)
    ∷ (not (list_all is_decimal balise), NotANumber row)
    ∷ (nat_lt 4 (length balise), NotANumber row)
    ∷ []

abbrev pub row_checks : Columns → Row → List (Bool × TableFault)
row_checks columns row =
    text_checks row.number (field_of row.fields columns.group) (field_of row.fields columns.telegram)
    (optional_field row.fields columns.aspect) (optional_field row.fields columns.balise)
    (has_text (drop columns.width row.fields))

-- the rows with text: none of them is left out
abbrev pub rows_with_text : List Row → List Row
rows_with_text rows = filter (λ row. has_text row.fields) rows

-- ---- the table

-- a wrong quote ends the rows
abbrev pub quote_fault : Option WrongQuote → Option TableFault
quote_fault (Some wrong) = Some (Quote wrong)
quote_fault None = None

-- the entries of rows below the heading, after those of the rows above them
abbrev pub entries_after : List Entry → Columns → Option WrongQuote → List Row → Result (List Entry) TableFault
entries_after before columns wrong below =
    let entries = before ++ map (entry_of columns) (rows_with_text below) in
    or_fault
    (or_else (all_checks (row_checks columns) (rows_with_text below))
    (or_else (quote_fault wrong)
    (first_fault ((length entries == 0, Empty) ∷ []))))
    (Ok entries)

-- the entries of the rows below the heading
abbrev pub entries_below : Columns → Option WrongQuote → List Row → Result (List Entry) TableFault
entries_below columns wrong below = entries_after [] columns wrong below

-- the entries of rows that are searched for the headings from the first one on
unfoldable pub entries_of_rows : Words → Option WrongQuote → List Row → Result (List Entry) TableFault
entries_of_rows words wrong [] = Err NoHeading
entries_of_rows words wrong (row ∷ rows) =
    if is_heading words row.fields
    then or_fault (first_fault (heading_checks words row)) (entries_below (columns_of words row.fields) wrong rows)
    else or_fault (first_fault (above_checks row)) (entries_of_rows words wrong rows)

-- the entries of the rows below a row that is the heading row with these columns, if it is one
abbrev pub entries_next : Option Columns → Words → Option WrongQuote → List Row → Result (List Entry) TableFault
entries_next (Some columns) words wrong rows = entries_below columns wrong rows
entries_next None words wrong rows = entries_of_rows words wrong rows

abbrev pub entries_of_sheet : Words → Sheet → Result (List Entry) TableFault
entries_of_sheet words sheet = entries_of_rows words sheet.wrong sheet.rows

-- the entries of a text with these delimiters
abbrev pub entries_by : Words → List ℕ → List Delimiter → Result (List Entry) TableFault
entries_by words text [] = Err NoHeading
entries_by words text (d ∷ []) = entries_of_sheet words (rows_of (delimiter_byte d) text)
entries_by words text (d ∷ e ∷ rest) = Err TwoDelimiters

-- the entries of a text that is UTF-8, without its mark
abbrev pub entries_of_text : Words → List ℕ → Result (List Entry) TableFault
entries_of_text words text = entries_by words text (delimiters_of words text)

-- The entries of a table, or its first fault: of its heading, then of its rows in their order, and then of its quotes.
abbrev pub entries_of : Words → List ℕ → Result (List Entry) TableFault
entries_of words bytes =
    if is_utf8 bytes then entries_of_text words (without_mark bytes) else Err NotUtf8
