-- What a reader of rows does.
use Rattle.std.specs.Prelude.{◌≡◌, ℕ, List, Option, None, Some}
use Rattle.etcs_rows.specs.Rows.{Sheet, no_rows, with_row}

-- A row with this number and these fields was read in front of the rows that are left. If no row was read, there was
-- none, and no wrong quote either.
abbrev pub IsRead : Option ℕ → Sheet → List (List ℕ) → Sheet → Type 0
IsRead None old fields new = old ≡ no_rows
IsRead (Some number) old fields new = old ≡ with_row (record { number = number; fields = fields }) new
