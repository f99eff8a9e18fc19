use Rattle.std.proofs.Common.{◌≡◌, ◌∙◌, List, None, Result, ap, subst, sym}
use Rattle.etcs_rows.specs.Rows.{no_rows}
use Rattle.etcs_table.specs.Entries.{Entry, entries_of_sheet}
use Rattle.etcs_table.specs.Faults.{FailsAs}
use Rattle.etcs_table.specs.declared.error.TableFault.{TableFault}
use Rattle.etcs_table.proofs.RowLemmas.{heading_unfound, no_heading_left}
use Rattle.etcs_table.proofs.heading_search.find_heading.Goals as goal

-- the next row is not read
pub returns-in-Err-clause-err : goal.returns-in-Err-clause-err
returns-in-Err-clause-err c =
    let same : entries_of_sheet c.args.words.now c.rows.reader ≡ entries_of_sheet c.args.words.now c.args.reader.now = c.rows.invariant in
    subst (λ (r : Result (List Entry) TableFault). FailsAs r c.end_of_rows.result) same
    (rw c.end_of_rows.ensures (heading_unfound c.args.words.now c.in-Err.error c.rows.reader c.in-Err.ensures.wrong))

-- no row is left
pub returns-in_default-clause-err : goal.returns-in_default-clause-err
returns-in_default-clause-err c =
    let same : entries_of_sheet c.args.words.now c.rows.reader ≡ entries_of_sheet c.args.words.now c.args.reader.now = c.rows.invariant in
    let none : c.in-Ok.read ≡ None = c.in_default.is in
    let read : c.rows.reader ≡ no_rows = rw none at c.in-Ok.ensures.read in
    sym same ∙ ap (entries_of_sheet c.args.words.now) read ∙ no_heading_left c.args.words.now None
