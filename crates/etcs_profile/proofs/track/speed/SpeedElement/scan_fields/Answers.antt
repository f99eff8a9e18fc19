use Rattle.std.proofs.lemmas.Result.{err_from_is_err_and}
use Rattle.etcs_bits.specs.layout.Growth.{GrowsAfter, HasItems}
use Rattle.etcs_bits.proofs.GrowthLemmas.{after_grows}
use Rattle.etcs_profile.specs.Track.{d_static, v_static, q_front}
use Rattle.etcs_profile.proofs.track.speed.SpeedElement.scan_fields.Goals as goal

-- after the three fields come the differences
pub returns-in_err-scan-4-clause-memory : goal.returns-in_err-scan-4-clause-memory
returns-in_err-scan-4-clause-memory c =
    let e = c.in_err-scan-4.field-0.0 in
    let failed = err_from_is_err_and c.from_residual-in_err-scan-4.result c.from_residual-in_err-scan-4.ensures.1 in
    let front = after_grows e q_front.fields HasItems c.scan-2.new.cur c.scan-3.new.cur _ c.in_ok-scan-3.ensures.gives c.in_err-scan-4.ensures.memory in
    let limit = after_grows e v_static.fields (GrowsAfter q_front.fields HasItems) c.scan.new.cur c.scan-2.new.cur _ c.in_ok-scan-2.ensures.gives front in
    rw (failed.1, failed.2) (after_grows e d_static.fields (GrowsAfter v_static.fields (GrowsAfter q_front.fields HasItems)) c.args.cur.now c.scan.new.cur _ c.in_ok-scan.ensures.gives limit)
