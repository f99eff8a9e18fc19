use Rattle.std.proofs.Common.{◌≡◌, ◌∙◌, ◌+◌, ◌<◌, [], arith, length, sym}
use Rattle.std.proofs.lemmas.Bool.Decides.{nat_tests}
use Rattle.etcs_rows.specs.Fields.{Stops, rows_in}
use Rattle.etcs_rows.specs.Rows.{Sheet}
use Rattle.etcs_rows.specs.declared.error.RowError.{RowError}
use Rattle.etcs_rows.specs.declared.error.RowError.TheVariants.{Memory, Quote}
use Rattle.etcs_rows.proofs.MachineLemmas.{first_field, none_left}
use Rattle.etcs_rows.proofs.row_reader.RowReader.next_row.Goals as goal

stops_earlier : (error : RowError) (old new : Sheet) → old ≡ new → Stops error new → Stops error old
stops_earlier Memory old new is stops = tt
stops_earlier (Quote quote) old new is stops = is ∙ stops

-- After the blank rows there is no text.
pub returns-then-is_empty-clause-read : goal.returns-then-is_empty-clause-read
returns-then-is_empty-clause-read c =
    let d = c.self.inside.delimiter in
    let n = c.self.inside.number in
    let none : length c.pass_blank_rows-blank.result.1.now ≡ 0 = grind (arith, nat_tests, c.is_empty.ensures, c.if-is_empty.true) in
    sym c.self.view_is ∙ c.pass_blank_rows-blank.ensures.rows d n ∙ none_left d (n + c.pass_blank_rows-blank.result.0) c.pass_blank_rows-blank.result.1.now none

-- A row follows the blank rows.
pub returns-clause-read : goal.returns-clause-read
returns-clause-read c =
    let d = c.self.inside.delimiter in
    let n = c.self.inside.number in
    let text = c.pass_blank_rows-blank.result.1.now in
    let some : 0 < length text = grind (arith, nat_tests, c.is_empty.ensures, c.if-is_empty.false) in
    sym c.self.view_is ∙ c.pass_blank_rows-blank.ensures.rows d n
    ∙ first_field d (n + c.pass_blank_rows-blank.result.0) text some c.pass_blank_rows-blank.ensures.begins
    ∙ c.in-Ok.ensures.row

pub returns-in-Err-clause-wrong : goal.returns-in-Err-clause-wrong
returns-in-Err-clause-wrong c =
    let d = c.self.inside.delimiter in
    let n = c.self.inside.number in
    let text = c.pass_blank_rows-blank.result.1.now in
    let some : 0 < length text = grind (arith, nat_tests, c.is_empty.ensures, c.if-is_empty.false) in
    let begins = sym c.self.view_is ∙ c.pass_blank_rows-blank.ensures.rows d n
    ∙ first_field d (n + c.pass_blank_rows-blank.result.0) text some c.pass_blank_rows-blank.ensures.begins in
    stops_earlier c.in-Err.error c.args.self.now (rows_in d (n + c.pass_blank_rows-blank.result.0) [] text) begins c.in-Err.ensures.wrong
