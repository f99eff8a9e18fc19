-- Where the headings of a table are, and which delimiter it has.
use Rattle.std.specs.Prelude.{ℕ, ◌&&◌, nat_lt, Bool, List, [], ◌∷◌, filter, length, map, position, take, codes}
use Rattle.std.specs.Char.{to_ascii_lowercase}
use Rattle.std.specs.List.{count_by, list_any, position_or_len}
use Rattle.etcs_rows.specs.Machine.{delimiter_byte}
use Rattle.etcs_rows.specs.Rows.{Row, rows_of}
use Rattle.etcs_rows.specs.declared.delimiter.Delimiter.{Delimiter}
use Rattle.etcs_rows.specs.declared.delimiter.Delimiter.TheVariants.{Comma, Semicolon, Tab}
use Rattle.etcs_table.specs.Text.{reads_as_telegram, same_text}
use Rattle.etcs_table.specs.declared.columns.Columns.{Columns}
use Rattle.etcs_table.specs.declared.error.Column.TheVariants as column
use Rattle.etcs_table.specs.declared.error.TableFault.{TableFault}
use Rattle.etcs_table.specs.declared.error.TableFault.TheVariants.{Above, Twice}

-- the headings of the columns that are read; a column of aspects or balises may be missing
pub record Words : Type 0 where
  pub group : List ℕ
  pub telegram : List ℕ
  pub aspect : List ℕ
  pub balise : List ℕ

-- the headings if the user gives no others
abbrev pub usual_words : Words
usual_words = record { group = codes "group"; telegram = codes "telegram"; aspect = codes "aspect"; balise = codes "balise" }

-- a field is this heading, in letters of either case
abbrev pub reads_as : List ℕ → List ℕ → Bool
reads_as word field = same_text (map to_ascii_lowercase field) (map to_ascii_lowercase word)

-- how many fields of a row are this heading
abbrev pub occurrences : List ℕ → List (List ℕ) → ℕ
occurrences word fields = count_by (reads_as word) fields

-- a row has the two headings that a table needs
abbrev pub is_heading : Words → List (List ℕ) → Bool
is_heading words fields = nat_lt 0 (occurrences words.group fields) && nat_lt 0 (occurrences words.telegram fields)

-- a delimiter gives a heading row among the first 20 rows
abbrev pub gives_heading : Words → List ℕ → Delimiter → Bool
gives_heading words text d = list_any (λ row. is_heading words row.fields) (take 20 (rows_of (delimiter_byte d) text).rows)

abbrev pub delimiters_of : Words → List ℕ → List Delimiter
delimiters_of words text = filter (gives_heading words text) (Comma ∷ Semicolon ∷ Tab ∷ [])

-- where the columns are, and how many fields the heading row has
abbrev pub columns_of : Words → List (List ℕ) → Columns
columns_of words fields = record {
  group = position_or_len (reads_as words.group) fields;
  telegram = position_or_len (reads_as words.telegram) fields;
  aspect = position (reads_as words.aspect) fields;
  balise = position (reads_as words.balise) fields;
  width = length fields;
}

-- what is wrong with the heading row itself
abbrev pub heading_checks : Words → Row → List (Bool × TableFault)
heading_checks words row =
    (nat_lt 1 (occurrences words.group row.fields), Twice row.number column.Group)
    ∷ (nat_lt 1 (occurrences words.telegram row.fields), Twice row.number column.Telegram)
    ∷ (nat_lt 1 (occurrences words.aspect row.fields), Twice row.number column.Aspect)
    ∷ (nat_lt 1 (occurrences words.balise row.fields), Twice row.number column.Balise)
    ∷ []

-- the fault of a row above the headings: it has a telegram
abbrev pub above_checks : Row → List (Bool × TableFault)
above_checks row = (list_any reads_as_telegram row.fields, Above row.number) ∷ []
