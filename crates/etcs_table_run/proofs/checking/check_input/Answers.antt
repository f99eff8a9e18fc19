use Rattle.std.proofs.Common.{◌∙◌, ap}
use Rattle.std.proofs.lemmas.Result.{err_from_is_err_and}
use Rattle.etcs_run.proofs.WholeLemmas.{Ran-unwritten, Ran-whole}
use Rattle.etcs_table_run.specs.TableOutput.{table_output}
use Rattle.etcs_table_run.proofs.checking.check_input.Goals as goal

-- the input was not read to its end
pub returns-in_err-table-clause-ran : goal.returns-in_err-table-clause-ran
returns-in_err-table-clause-ran g c =
    let passed_on = err_from_is_err_and c.from_residual.result c.from_residual.ensures.1 in
    rw passed_on.1 (Ran-unwritten passed_on.0 c.in_err-table.ensures.read)

-- memory ran out before the answer was complete
pub returns-in_err-text-clause-ran : goal.returns-in_err-text-clause-ran
returns-in_err-text-clause-ran g c =
    let residual = c.from_residual-in_err-text in
    let passed_on = err_from_is_err_and residual.result residual.ensures.1 in
    rw passed_on.1 (Ran-unwritten passed_on.0 c.in_ok-table.ensures.read)

-- the answer was written, or a beginning of it
pub returns-clause-ran : goal.returns-clause-ran
returns-clause-ran g c =
    let is =
    ap (λ s. (s, c.in_ok-text.status)) c.as_bytes.ensures.value ∙ c.in_ok-text.ensures
    ∙ ap (table_output c.args.headings.now) c.as_slice.ensures.value in
    Ran-whole c.in_ok-table.ensures.read is c.write_out.ensures.writes
