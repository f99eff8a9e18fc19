-- How a table of separated values (CSV) is read, one byte at a time. Fields are separated by a delimiter, and rows by
-- a carriage return, a line feed, or both. A field in quotes may contain delimiters and line ends, and a quote in it
-- is doubled.
use Rattle.std.specs.Prelude.{ℕ, ◌==◌, if◌then◌else◌}
use Rattle.etcs_rows.specs.declared.delimiter.Delimiter.{Delimiter}
use Rattle.etcs_rows.specs.declared.delimiter.Delimiter.TheVariants.{Comma, Semicolon, Tab}
use Rattle.etcs_rows.specs.declared.error.QuoteFault.{QuoteFault}
use Rattle.etcs_rows.specs.declared.error.QuoteFault.TheVariants.{Inside, Text}

-- the byte between fields
abbrev pub delimiter_byte : Delimiter → ℕ
delimiter_byte Comma = 44
delimiter_byte Semicolon = 59
delimiter_byte Tab = 9

-- where in a row the next byte is
pub data Place : Type 0 where
  -- at the start of a row
  row_start : Place
  -- the same, after a carriage return, to which a line feed still belongs
  after_return : Place
  -- at the start of a field
  field_start : Place
  -- in a field without quotes
  plain : Place
  -- between quotes
  quoted : Place
  -- after a quote that ends the field, or is the first of two
  closed : Place

-- what a byte does
pub data Action : Type 0 where
  -- it is no part of a field
  skip : Action
  -- it is the next byte of the field
  append : Action
  -- it ends the field
  end_field : Action
  -- it ends the field and the row
  end_row : Action
  -- it ends a row that has no field
  end_blank : Action
  -- it is a wrong quote, or shows that the quote before it was wrong
  refuse : QuoteFault → Action

-- a byte after a field's text: the delimiter ends the field, and 13 and 10 end the row
abbrev pub after_text : ℕ → Action → ℕ → Place × Action
after_text delimiter otherwise c =
    if c == delimiter then (field_start, end_field) else if c == 13 then (after_return, end_row)
    else if c == 10 then (row_start, end_row) else (plain, otherwise)

-- a byte at the start of a field: a quote, 34, opens the field
abbrev pub at_field_start : ℕ → ℕ → Place × Action
at_field_start delimiter c = if c == 34 then (quoted, skip) else after_text delimiter append c

-- a byte at the start of a row: 13 and 10 end a blank row
abbrev pub at_row_start : ℕ → ℕ → Place × Action
at_row_start delimiter c =
    if c == 13 then (after_return, end_blank) else if c == 10 then (row_start, end_blank)
    else at_field_start delimiter c

-- the place after a byte, and what the byte does
abbrev pub step : ℕ → Place → ℕ → Place × Action
step delimiter row_start c = at_row_start delimiter c
step delimiter after_return c = if c == 10 then (row_start, skip) else at_row_start delimiter c
step delimiter field_start c = at_field_start delimiter c
step delimiter plain c = if c == 34 then (plain, refuse Inside) else after_text delimiter append c
step delimiter quoted c = if c == 34 then (closed, skip) else (quoted, append)
step delimiter closed c = if c == 34 then (quoted, append) else after_text delimiter (refuse Text) c
