use Rattle.std.proofs.Common.{◌∙◌, ap, refl}
use Rattle.std.proofs.lemmas.Result.{err_from_is_err_and}
use Rattle.etcs_run.specs.Checking.{check_output}
use Rattle.etcs_run.proofs.WholeLemmas.{Ran-unwritten, Ran-whole, not_failed, on_ok_anyway}
use Rattle.etcs_run.proofs.checking.check_input.Goals as goal

-- the input was not read to its end
pub returns-in_err-document-clause-ran : goal.returns-in_err-document-clause-ran
returns-in_err-document-clause-ran g c =
    let passed_on = err_from_is_err_and c.from_residual.result c.from_residual.ensures.1 in
    rw passed_on.1 (Ran-unwritten passed_on.0 c.in_err-document.ensures.read)

pub returns-in_err-document-clause-unwritten : goal.returns-in_err-document-clause-unwritten
returns-in_err-document-clause-unwritten g c =
    let passed_on = err_from_is_err_and c.from_residual.result c.from_residual.ensures.1 in
    rw passed_on.1 (λ none. refl)

-- memory ran out before the answer was complete
pub returns-in_err-text-clause-ran : goal.returns-in_err-text-clause-ran
returns-in_err-text-clause-ran g c =
    let residual = c.from_residual-in_err-text in
    let passed_on = err_from_is_err_and residual.result residual.ensures.1 in
    rw passed_on.1 (Ran-unwritten passed_on.0 c.in_ok-document.ensures.read)

-- the answer was written, or a beginning of it
pub returns-clause-ran : goal.returns-clause-ran
returns-clause-ran g c =
    let is =
    ap (λ s. (s, c.in_ok-text.status)) c.as_bytes.ensures.value ∙ c.in_ok-text.ensures
    ∙ ap check_output c.as_slice.ensures.value in
    Ran-whole c.in_ok-document.ensures.read is c.write_out.ensures.writes

-- the input was read to its end before
pub returns-clause-to_end : goal.returns-clause-to_end
returns-clause-to_end g c = on_ok_anyway c.write_out.result c.in_ok-document.ensures.read.whole.1

pub returns-clause-cut_off : goal.returns-clause-cut_off
returns-clause-cut_off g c one = c.in_ok-document.ensures.read.whole.1

-- then only the writer can fail
pub returns-clause-unwritten : goal.returns-clause-unwritten
returns-clause-unwritten g c =
    not_failed _ c.write_out.result _ _ c.write_out.ensures.device c.write_out.ensures.counts
