use Rattle.std.proofs.Common.{◌∙◌, ap, sym}
use Rattle.etcs_rows.specs.Rows.{Row}
use Rattle.etcs_table.specs.Entries.{entries_below}
use Rattle.etcs_table.specs.declared.columns.Columns.{Columns}
use Rattle.etcs_table.proofs.RowLemmas.{above_faulty, above_passed, heading_faulty, heading_found}
use Rattle.etcs_table.proofs.heading_search.heading_in.Goals as goal

-- the heading row has a heading twice
pub returns-in-Some-clause-err : goal.returns-in-Some-clause-err
returns-in-Some-clause-err c = λ wrong rows.
    let row : Row = record { number = c.args.number; fields = c.args.cells.now } in
    heading_faulty c.args.words.now row wrong rows c.in-Some.fault (sym c.is_heading.ensures ∙ c.if-is_heading.true) c.in-Some.ensures

-- it is as it should be
pub returns-in-None-clause-ok : goal.returns-in-None-clause-ok
returns-in-None-clause-ok c = λ wrong rows.
    let row : Row = record { number = c.args.number; fields = c.args.cells.now } in
    heading_found c.args.words.now row wrong rows (sym c.is_heading.ensures ∙ c.if-is_heading.true) c.in-None.ensures
    ∙ ap (λ (columns : Columns). entries_below columns wrong rows) (sym c.columns_of.ensures)

-- a row above the headings has a telegram
pub returns-then-has_telegram-clause-err : goal.returns-then-has_telegram-clause-err
returns-then-has_telegram-clause-err c = λ wrong rows.
    let row : Row = record { number = c.args.number; fields = c.args.cells.now } in
    above_faulty c.args.words.now row wrong rows (sym c.is_heading.ensures ∙ c.if-is_heading.false) (sym c.has_telegram.ensures ∙ c.if-has_telegram.true)

-- it has none
pub returns-else-has_telegram-clause-ok : goal.returns-else-has_telegram-clause-ok
returns-else-has_telegram-clause-ok c = λ wrong rows.
    let row : Row = record { number = c.args.number; fields = c.args.cells.now } in
    above_passed c.args.words.now row wrong rows (sym c.is_heading.ensures ∙ c.if-is_heading.false) (sym c.has_telegram.ensures ∙ c.if-has_telegram.false)
