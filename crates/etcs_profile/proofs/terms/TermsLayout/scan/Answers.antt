use Rattle.std.proofs.lemmas.Result.{err_from_is_err_and}
use Rattle.etcs_bits.specs.layout.Growth.{GrowsAfter, HasItems}
use Rattle.etcs_bits.proofs.GrowthLemmas.{after_grows}
use Rattle.etcs_profile.specs.Terms.{v_loa, t_loa}
use Rattle.etcs_profile.proofs.terms.TermsLayout.scan.Goals as goal

-- after V_LOA and T_LOA come the sections
pub returns-in_err-scan-3-clause-memory : goal.returns-in_err-scan-3-clause-memory
returns-in_err-scan-3-clause-memory c =
    let e = c.in_err-scan-3.field-0.0 in
    let failed = err_from_is_err_and c.from_residual-in_err-scan-3.result c.from_residual-in_err-scan-3.ensures.1 in
    let timeout = after_grows e t_loa.fields HasItems c.scan.new.cur c.scan-2.new.cur _ c.in_ok-scan-2.ensures.gives c.in_err-scan-3.ensures.memory in
    rw (failed.1, failed.2) (after_grows e v_loa.fields (GrowsAfter t_loa.fields HasItems) c.args.cur.now c.scan.new.cur _ c.in_ok-scan.ensures.gives timeout)
