use Rattle.std.proofs.lemmas.Result.{err_from_is_err_and}
use Rattle.etcs_bits.specs.layout.Growth.{GrowsAfter, HasItems}
use Rattle.etcs_bits.specs.variables.VariableFormats.{q_scale}
use Rattle.etcs_bits.proofs.GrowthLemmas.{after_grows}
use Rattle.etcs_profile.specs.Transition.{d_leveltr, level_order}
use Rattle.etcs_profile.proofs.track.transition.LevelOrdersLayout.scan.Goals as goal

-- after the first level come the further ones
pub returns-in_err-scan-4-clause-memory : goal.returns-in_err-scan-4-clause-memory
returns-in_err-scan-4-clause-memory c =
    let e = c.in_err-scan-4.field-0.0 in
    let failed = err_from_is_err_and c.from_residual-in_err-scan-4.result c.from_residual-in_err-scan-4.ensures.1 in
    let first = after_grows e level_order.fields HasItems c.scan-2.new.cur c.scan-3.new.cur _ c.in_ok-scan-3.ensures.gives c.in_err-scan-4.ensures.memory in
    let place = after_grows e d_leveltr.fields (GrowsAfter level_order.fields HasItems) c.scan.new.cur c.scan-2.new.cur _ c.in_ok-scan-2.ensures.gives first in
    rw (failed.1, failed.2) (after_grows e q_scale.fields (GrowsAfter d_leveltr.fields (GrowsAfter level_order.fields HasItems)) c.args.cur.now c.scan.new.cur _ c.in_ok-scan.ensures.gives place)
