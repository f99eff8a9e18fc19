use Rattle.etcs_bits.proofs.PutLemmas.{puts_then}
use Rattle.etcs_profile.proofs.terms.TermsLayout.put.Goals as goal

-- each part is put after the one before it
pub returns : goal.returns
returns c =
    rw (← c.self.view_is)
    (puts_then _ _ _ _ _ _ c.in_ok-put.ensures (puts_then _ _ _ _ _ _ c.in_ok-put-2.ensures
    (puts_then _ _ _ _ _ _ c.in_ok-put-3.ensures (puts_then _ _ _ _ _ _ c.in_ok-put-4.ensures
    (puts_then _ _ _ _ _ _ c.in_ok-put-5.ensures (puts_then _ _ _ _ _ _ c.in_ok-put-6.ensures
    (puts_then _ _ _ _ _ _ c.in_ok-put-7.ensures c.put-8.ensures)))))))
