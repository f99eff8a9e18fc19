use Rattle.std.proofs.Common.{◌∙◌}
use Rattle.std.specs.Prelude.{codes}
use Rattle.etcs_findings.proofs.WritingLemmas.{adds_then, text_is, then_adds}
use Rattle.etcs_findings.specs.Refusals.{with_fault}
use Rattle.etcs_findings.proofs.refusal.put_message.Goals as goal

-- the reason, the place in the line, and then the bits
pub returns : goal.returns
unfolding with_fault
returns c =
    let reason = text_is (codes "reason") (c.as_str.ensures.value ∙ c.in_ok-reason.ensures) c.in_ok-put_text.ensures in
    then_adds _ _ _ (adds_then reason c.in_ok-put_number.ensures) c.put_message_bits.ensures
