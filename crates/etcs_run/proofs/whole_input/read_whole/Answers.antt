use Rattle.std.proofs.lemmas.Result.{err_from_is_err_and}
use Rattle.etcs_run.proofs.WholeLemmas.{Whole-failed}
use Rattle.etcs_run.proofs.whole_input.read_whole.Goals as goal

-- no more could be read
pub returns-in_err-read_more-clause-read : goal.returns-in_err-read_more-clause-read
returns-in_err-read_more-clause-read g c =
    let residual = c.from_residual-in_err-read_more in
    let passed_on = err_from_is_err_and residual.result residual.ensures.1 in
    rw passed_on.1 (Whole-failed passed_on.0 c.reading.invariant.consumed c.in_err-read_more.ensures.read)
