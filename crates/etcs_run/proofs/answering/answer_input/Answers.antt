use Rattle.std.proofs.lemmas.Result.{err_from_is_err_and}
use Rattle.etcs_run.proofs.RunLemmas.{Ran-failed, Ran-kept}
use Rattle.etcs_run.proofs.answering.answer_input.Goals as goal

-- everything was written, and then the flush failed
pub returns-in_err-finish-clause-ran : goal.returns-in_err-finish-clause-ran
returns-in_err-finish-clause-ran g c =
    let residual = c.from_residual-in_err-finish in
    let passed_on = err_from_is_err_and residual.result residual.ensures.1 in
    let begun = Ran-failed passed_on.0 c.in_ok-status.ensures.ran in
    rw passed_on.1 (Ran-kept begun c.in_err-finish.ensures.kept)

-- everything was written and flushed
pub returns-clause-ran : goal.returns-clause-ran
returns-clause-ran g c = Ran-kept c.in_ok-status.ensures.ran c.in_ok-finish.ensures.kept
