use Rattle.std.proofs.Common.{refl}
use Rattle.std.proofs.lemmas.Result.{err_from_is_err_and}
use Rattle.etcs_run.proofs.RunLemmas.{Writes-begun, Writes-failed, Writes-kept, Writes-whole}
use Rattle.etcs_run.proofs.output.write_out.Goals as goal

-- the text was cut off
pub returns-in_err-put-clause-writes : goal.returns-in_err-put-clause-writes
returns-in_err-put-clause-writes g c =
    let passed_on = err_from_is_err_and c.from_residual.result c.from_residual.ensures.1 in
    rw passed_on.1 (Writes-begun passed_on.0 c.put.ensures.written refl)

-- it was written, and then the flush failed
pub returns-in_err-finish-clause-writes : goal.returns-in_err-finish-clause-writes
returns-in_err-finish-clause-writes g c =
    let residual = c.from_residual-in_err-finish in
    let passed_on = err_from_is_err_and residual.result residual.ensures.1 in
    let whole = Writes-kept (Writes-whole c.in_ok-put.ensures.written refl) c.in_err-finish.ensures.kept in
    rw passed_on.1 (Writes-failed passed_on.0 whole)

-- it was written and flushed
pub returns-clause-writes : goal.returns-clause-writes
returns-clause-writes g c = Writes-kept (Writes-whole c.in_ok-put.ensures.written refl) c.in_ok-finish.ensures.kept
