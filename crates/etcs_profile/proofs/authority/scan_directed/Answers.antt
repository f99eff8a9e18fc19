use Rattle.std.proofs.lemmas.Result.{err_from_is_err_and}
use Rattle.etcs_bits.specs.variables.VariableFormats.{q_dir}
use Rattle.etcs_bits.proofs.GrowthLemmas.{after_grows}
use Rattle.etcs_profile.proofs.authority.scan_directed.Goals as goal

-- the body after Q_DIR grows
pub returns-in_err-body-clause-memory : goal.returns-in_err-body-clause-memory
returns-in_err-body-clause-memory g c =
    let failed = err_from_is_err_and c.from_residual-in_err-body.result c.from_residual-in_err-body.ensures.1 in
    rw (failed.1, failed.2) (after_grows c.in_err-body.field-0.0 q_dir.fields g.B.Layout.grows c.args.cur.now _ (q_dir.rows c.in_ok-dir.dir) c.in_ok-dir.ensures.gives c.in_err-body.ensures.memory)
