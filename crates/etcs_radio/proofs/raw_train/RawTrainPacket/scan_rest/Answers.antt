use Rattle.std.proofs.lemmas.Result.{err_from_is_err_and}
use Rattle.etcs_radio.proofs.raw_train.RawTrainPacket.scan_rest.Goals as goal

-- the body is copied only if it is not empty
pub returns-in_err-body-clause-memory : goal.returns-in_err-body-clause-memory
returns-in_err-body-clause-memory c =
    let failed = err_from_is_err_and c.from_residual-in_err-body.result c.from_residual-in_err-body.ensures.1 in
    rw (failed.1, failed.2) (c.in_ok-scan_kept.field-0, c.scan_kept.new.cur, c.in_ok-scan_kept.ensures.gives, c.in_err-body.ensures.memory)
