use Rattle.std.proofs.Common.{◌≡◌, ◌∙◌, false, sym, true}
use Rattle.etcs_rows.specs.Rows.{Row, with_row}
use Rattle.etcs_table.specs.Heading.{is_heading}
use Rattle.etcs_table.proofs.RowLemmas.{gives_here, gives_later, gives_no_more}
use Rattle.etcs_table.proofs.heading_search.gives_heading.Goals as goal

-- this row is the heading row
pub returns-then-is_heading : goal.returns-then-is_heading
returns-then-is_heading c =
    let row : Row = record { number = c.in-Some._number; fields = c.next_row.new.fields.items } in
    let read : c.rows.reader ≡ with_row row c.next_row.new.self = rw c.in-Some.is at c.in-Ok.ensures.read in
    let here : is_heading c.args.words.now row.fields ≡ true =
    rw (c.as_slice-in-rows.ensures.value, c.in_ok-cells.ensures, c.as_slice.ensures.value) at (sym c.is_heading.ensures ∙ c.if-is_heading.true) in
    gives_here c.args.words.now c.rows.left _ c.rows.reader c.rows.invariant row c.next_row.new.self c.rows-test.true read here

-- it is not
pub rows-preserved : goal.rows-preserved
rows-preserved c =
    let row : Row = record { number = c.in-Some._number; fields = c.next_row.new.fields.items } in
    let read : c.rows.reader ≡ with_row row c.next_row.new.self = rw c.in-Some.is at c.in-Ok.ensures.read in
    let not_here : is_heading c.args.words.now row.fields ≡ false =
    rw (c.as_slice-in-rows.ensures.value, c.in_ok-cells.ensures, c.as_slice.ensures.value) at (sym c.is_heading.ensures ∙ c.if-is_heading.false) in
    gives_later c.args.words.now c.rows.left _ c.rows.reader c.rows.invariant row c.next_row.new.self c.rows-test.true read not_here

-- none of the first rows is
pub returns : goal.returns
returns c = gives_no_more c.args.words.now c.rows.left _ c.rows.reader.rows c.rows.invariant c.rows-test.false
