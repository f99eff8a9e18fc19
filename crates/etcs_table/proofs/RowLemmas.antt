-- The rows of a table, one by one.
use Rattle.std.proofs.Common.{◌≡◌, ◌∙◌, ◌==◌, ◌++◌, ◌||◌, ◌-◌, ◌<◌, ◌≤◌, ℕ, zero, suc, Bool, true, false, List, [], ◌∷◌, Option, None, Some, Ok, Err, ap, append_assoc, arith, length, map, refl, sym, take}
use Rattle.std.proofs.lemmas.List.{append-nil}
use Rattle.std.specs.List.{list_any}
use Rattle.etcs_rows.specs.Fields.{Stops}
use Rattle.etcs_rows.specs.Rows.{Row, Sheet, with_row}
use Rattle.etcs_rows.specs.declared.error.RowError.{RowError}
use Rattle.etcs_rows.specs.declared.error.RowError.TheVariants as row_errors
use Rattle.etcs_rows.specs.declared.error.WrongQuote.{WrongQuote}
use Rattle.etcs_table.specs.Entries.{Entry, entries_after, entries_below, entries_of_rows, entries_of_sheet, entry_of, has_text, row_checks, rows_with_text}
use Rattle.etcs_table.specs.Faults.{FailsAs, IsFoundAs, all_checks, first_fault, or_fault, unfound_heading, unread_row}
use Rattle.etcs_table.specs.Heading.{Words, above_checks, columns_of, heading_checks, is_heading}
use Rattle.etcs_table.specs.Text.{reads_as_telegram}
use Rattle.etcs_table.specs.declared.columns.Columns.{Columns}
use Rattle.etcs_table.specs.declared.error.TableError.{TableError}
use Rattle.etcs_table.specs.declared.error.TableError.TheVariants as errors
use Rattle.etcs_table.specs.declared.error.TableFault.{TableFault}
use Rattle.etcs_table.specs.declared.error.TableFault.TheVariants.{Above, Empty, NoHeading, Quote}

-- ---- rows above the headings, and the heading row

module _ (words : Words) (row : Row) (wrong : Option WrongQuote) (rows : List Row) where
  pub at_heading : is_heading words row.fields ≡ true → entries_of_rows words wrong (row ∷ rows)
      ≡ or_fault (first_fault (heading_checks words row)) (entries_below (columns_of words row.fields) wrong rows)
  unfolding entries_of_rows
  at_heading is = rw is refl

  pub above_heading : is_heading words row.fields ≡ false
      → entries_of_rows words wrong (row ∷ rows) ≡ or_fault (first_fault (above_checks row)) (entries_of_rows words wrong rows)
  unfolding entries_of_rows
  above_heading is = rw is refl

  pub heading_faulty : (fault : TableFault) → is_heading words row.fields ≡ true → Some fault ≡ first_fault (heading_checks words row)
      → entries_of_rows words wrong (row ∷ rows) ≡ Err fault
  heading_faulty fault is found = at_heading is ∙ ap (λ (o : Option TableFault). or_fault o (entries_below (columns_of words row.fields) wrong rows)) (sym found)

  pub heading_found : is_heading words row.fields ≡ true → None ≡ first_fault (heading_checks words row)
      → entries_of_rows words wrong (row ∷ rows) ≡ entries_below (columns_of words row.fields) wrong rows
  heading_found is none = at_heading is ∙ ap (λ (o : Option TableFault). or_fault o (entries_below (columns_of words row.fields) wrong rows)) (sym none)

  pub above_faulty : is_heading words row.fields ≡ false → list_any reads_as_telegram row.fields ≡ true
      → entries_of_rows words wrong (row ∷ rows) ≡ Err (Above row.number)
  unfolding first_fault
  above_faulty is found = above_heading is ∙ rw found refl

  pub above_passed : is_heading words row.fields ≡ false → list_any reads_as_telegram row.fields ≡ false
      → entries_of_rows words wrong (row ∷ rows) ≡ entries_of_rows words wrong rows
  unfolding first_fault
  above_passed is none = above_heading is ∙ rw none refl

pub no_heading_left : (words : Words) (wrong : Option WrongQuote) → entries_of_rows words wrong [] ≡ Err NoHeading
unfolding entries_of_rows
no_heading_left words wrong = refl

-- why no row is left
pub heading_unfound : (words : Words) (error : RowError) (sheet : Sheet) → Stops error sheet → FailsAs (entries_of_sheet words sheet) (unfound_heading error)
heading_unfound words row_errors.Memory sheet stops = tt
heading_unfound words (row_errors.Quote wrong) sheet stops = ap (entries_of_sheet words) stops ∙ no_heading_left words (Some wrong)

-- ---- the first rows

-- the heading row is among the first rows
abbrev pub heading_among : Words → ℕ → List Row → Bool
heading_among words n rows = list_any (λ (row : Row). is_heading words row.fields) (take n rows)

-- it is the first of them, or one of the others
among_first : (words : Words) (n : ℕ) (row : Row) (rows : List Row) → 0 < n
    → heading_among words n (row ∷ rows) ≡ (is_heading words row.fields || heading_among words (n - 1) rows)
among_first words zero row rows some = absurd (omega arith)
among_first words (suc n) row rows some = let less : suc n - 1 ≡ n = omega arith in rw less refl

among_none : (words : Words) (n : ℕ) → heading_among words n [] ≡ false
among_none words zero = refl
among_none words (suc n) = refl

module _ (words : Words) (n : ℕ) (gives : Bool) (sheet : Sheet) (so_far : gives ≡ heading_among words n sheet.rows) where
  -- no row is left
  pub gives_none : (wrong : Option WrongQuote) → sheet ≡ record { rows = []; wrong = wrong } → false ≡ gives
  gives_none wrong is = sym (so_far ∙ ap (λ (s : Sheet). heading_among words n s.rows) is ∙ among_none words n)

  gives_by : (row : Row) (next : Sheet) → 0 < n → sheet ≡ with_row row next
      → gives ≡ (is_heading words row.fields || heading_among words (n - 1) next.rows)
  gives_by row next some is = so_far ∙ ap (λ (s : Sheet). heading_among words n s.rows) is ∙ among_first words n row next.rows some

  -- the next row is the heading row
  pub gives_here : (row : Row) (next : Sheet) → 0 < n → sheet ≡ with_row row next → is_heading words row.fields ≡ true → true ≡ gives
  gives_here row next some is here = sym (gives_by row next some is ∙ rw here refl)

  -- it is not
  pub gives_later : (row : Row) (next : Sheet) → 0 < n → sheet ≡ with_row row next → is_heading words row.fields ≡ false
      → gives ≡ heading_among words (n - 1) next.rows
  gives_later row next some is not_here = gives_by row next some is ∙ rw not_here refl

-- no row is left to be looked at
pub gives_no_more : (words : Words) (n : ℕ) (gives : Bool) (rows : List Row) → gives ≡ heading_among words n rows → n ≤ 0 → false ≡ gives
gives_no_more words zero gives rows so_far none = sym so_far
gives_no_more words (suc n) gives rows so_far none = absurd (omega arith)

-- ---- rows below the headings

module _ (columns : Columns) (before : List Entry) (row : Row) (wrong : Option WrongQuote) (rows : List Row) where
  pub passed_over : has_text row.fields ≡ false
      → entries_after before columns wrong (row ∷ rows) ≡ entries_after before columns wrong rows
  passed_over none = rw none refl

  pub entry_read : has_text row.fields ≡ true → first_fault (row_checks columns row) ≡ None
      → entries_after before columns wrong (row ∷ rows) ≡ entries_after (before ++ entry_of columns row ∷ []) columns wrong rows
  unfolding all_checks
  entry_read some none = rw (some, none, append_assoc before (entry_of columns row ∷ []) (map (entry_of columns) (rows_with_text rows))) refl

  pub entry_faulty : (fault : TableFault) → has_text row.fields ≡ true → first_fault (row_checks columns row) ≡ Some fault
      → entries_after before columns wrong (row ∷ rows) ≡ Err fault
  unfolding all_checks
  entry_faulty fault some found = rw (some, found) refl

  pub entry_fails : (error : TableError) → has_text row.fields ≡ true → IsFoundAs (first_fault (row_checks columns row)) error
      → FailsAs (entries_after before columns wrong (row ∷ rows)) error
  entry_fails errors.Memory some found = tt
  entry_fails (errors.Fault fault) some found = entry_faulty fault some found

module _ (columns : Columns) (before : List Entry) where
  pub ends_with : (length before == 0) ≡ false → entries_after before columns None [] ≡ Ok before
  unfolding all_checks first_fault
  ends_with some = rw (append-nil before, some) refl

  pub ends_without : (length before == 0) ≡ true → entries_after before columns None [] ≡ Err Empty
  unfolding all_checks first_fault
  ends_without none = rw (append-nil before, none) refl

  pub ends_wrong : (quote : WrongQuote) → entries_after before columns (Some quote) [] ≡ Err (Quote quote)
  unfolding all_checks
  ends_wrong quote = refl

  pub ends_unread : (error : RowError) (sheet : Sheet) → Stops error sheet → FailsAs (entries_after before columns sheet.wrong sheet.rows) (unread_row error)
  ends_unread row_errors.Memory sheet stops = tt
  ends_unread (row_errors.Quote wrong) sheet stops = ap (λ (s : Sheet). entries_after before columns s.wrong s.rows) stops ∙ ends_wrong wrong
