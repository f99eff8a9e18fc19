use Rattle.std.proofs.Common.{◌≡◌, ◌∙◌, ◌==◌, ◌++◌, [], ◌∷◌, List, None, Result, ap, false, length, subst, sym, true}
use Rattle.etcs_rows.specs.Rows.{Row, Sheet, no_rows, with_row}
use Rattle.etcs_table.specs.Entries.{Entry, entries_after, entries_below, entry_of, has_text, row_checks}
use Rattle.etcs_table.specs.Faults.{FailsAs, IsFoundAs, first_fault}
use Rattle.etcs_table.specs.declared.error.TableFault.{TableFault}
use Rattle.etcs_table.proofs.RowLemmas.{ends_unread, ends_with, ends_without, entry_fails, entry_read}
use Rattle.etcs_table.proofs.telegram_rows.read_rows.Goals as goal

-- the next row is not read
pub returns-in-Err-clause-err : goal.returns-in-Err-clause-err
returns-in-Err-clause-err c =
    let items = c.rows.rows.items in
    let same : entries_after items c.args.columns.now c.rows.reader.wrong c.rows.reader.rows
    ≡ entries_below c.args.columns.now c.args.reader.now.wrong c.args.reader.now.rows = c.rows.invariant in
    subst (λ (r : Result (List Entry) TableFault). FailsAs r c.unread_row.result) same
    (rw c.unread_row.ensures (ends_unread c.args.columns.now items c.in-Err.error c.rows.reader c.in-Err.ensures.wrong))

-- no row is left, and none had a telegram
pub returns-then-is_empty-clause-err : goal.returns-then-is_empty-clause-err
returns-then-is_empty-clause-err c =
    let items = c.rows.rows.items in
    let same : entries_after items c.args.columns.now c.rows.reader.wrong c.rows.reader.rows
    ≡ entries_below c.args.columns.now c.args.reader.now.wrong c.args.reader.now.rows = c.rows.invariant in
    let none : c.in-Ok.read ≡ None = c.in_default.is in
    let read : c.rows.reader ≡ no_rows = rw none at c.in-Ok.ensures.read in
    let empty : (length items == 0) ≡ true = rw c.as_slice.ensures.value at (sym c.is_empty.ensures ∙ c.if-is_empty.true) in
    sym same
    ∙ ap (λ (s : Sheet). entries_after items c.args.columns.now s.wrong s.rows) read
    ∙ ends_without c.args.columns.now items empty

-- no row is left, and some had a telegram
pub returns-in_default-clause-ok : goal.returns-in_default-clause-ok
returns-in_default-clause-ok c =
    let items = c.rows.rows.items in
    let same : entries_after items c.args.columns.now c.rows.reader.wrong c.rows.reader.rows
    ≡ entries_below c.args.columns.now c.args.reader.now.wrong c.args.reader.now.rows = c.rows.invariant in
    let none : c.in-Ok.read ≡ None = c.in_default.is in
    let read : c.rows.reader ≡ no_rows = rw none at c.in-Ok.ensures.read in
    let some : (length items == 0) ≡ false = rw c.as_slice.ensures.value at (sym c.is_empty.ensures ∙ c.if-is_empty.false) in
    sym same
    ∙ ap (λ (s : Sheet). entries_after items c.args.columns.now s.wrong s.rows) read
    ∙ ends_with c.args.columns.now items some

-- the row has a telegram
pub rows-preserved-in-Continue-1 : goal.rows-preserved-in-Continue-1
rows-preserved-in-Continue-1 c =
    let columns = c.args.columns.now in
    let items = c.rows.rows.items in
    let next = c.next_row.new.self in
    let row : Row = record { number = c.in-Some.number; fields = c.next_row.new.fields.items } in
    let same : entries_after items columns c.rows.reader.wrong c.rows.reader.rows
    ≡ entries_below columns c.args.reader.now.wrong c.args.reader.now.rows = c.rows.invariant in
    let read : c.rows.reader ≡ with_row row next = rw c.in-Some.is at c.in-Ok.ensures.read in
    let some : has_text row.fields ≡ true = rw c.as_slice-in-rows.ensures.value at (sym c.has_text.ensures ∙ c.if-has_text.true) in
    let sound : first_fault (row_checks columns row) ≡ None = rw c.as_slice-then-has_text.ensures.value at c.in-Ok-read_row.ensures.sound in
    let is : c.in-Ok-read_row.row ≡ entry_of columns row = rw c.as_slice-then-has_text.ensures.value at c.in-Ok-read_row.ensures.ok in
    let pushed : c.push.new.self.items ≡ items ++ entry_of columns row ∷ [] = rw is at c.in_ok-push-in-Ok-read_row.ensures.items in
    ap (λ (now : List Entry). entries_after now columns next.wrong next.rows) pushed
    ∙ sym (entry_read columns items row next.wrong next.rows some sound)
    ∙ sym (ap (λ (s : Sheet). entries_after items columns s.wrong s.rows) read)
    ∙ same

-- the row has a fault
pub returns-in-Err-read_row-clause-err : goal.returns-in-Err-read_row-clause-err
returns-in-Err-read_row-clause-err c =
    let columns = c.args.columns.now in
    let items = c.rows.rows.items in
    let next = c.next_row.new.self in
    let row : Row = record { number = c.in-Some.number; fields = c.next_row.new.fields.items } in
    let same : entries_after items columns c.rows.reader.wrong c.rows.reader.rows
    ≡ entries_below columns c.args.reader.now.wrong c.args.reader.now.rows = c.rows.invariant in
    let read : c.rows.reader ≡ with_row row next = rw c.in-Some.is at c.in-Ok.ensures.read in
    let some : has_text row.fields ≡ true = rw c.as_slice-in-rows.ensures.value at (sym c.has_text.ensures ∙ c.if-has_text.true) in
    let found : IsFoundAs (first_fault (row_checks columns row)) c.in-Err-read_row.error = rw c.as_slice-then-has_text.ensures.value at c.in-Err-read_row.ensures.err in
    subst (λ (r : Result (List Entry) TableFault). FailsAs r c.in-Err-read_row.error)
    (sym (ap (λ (s : Sheet). entries_after items columns s.wrong s.rows) read) ∙ same)
    (entry_fails columns items row next.wrong next.rows c.in-Err-read_row.error some found)
