use Rattle.std.proofs.Common.{◌*◌, ◌+◌, refl, arith}
use Rattle.etcs_check.proofs.IdentityLemmas.{no_repeat_more}
use Rattle.etcs_check.proofs.identities.has_repeat.Goals as goal

pub parts-init : goal.parts-init
parts-init c = record { none = λ i g at lo hi. absurd (omega arith); numbered = λ lt. absurd (omega arith) }

-- One more part has no repeat.
pub parts-preserved : goal.parts-preserved
parts-preserved c = record {
  none = no_repeat_more (c.parts.part * 2097152) 2097152 ((c.parts.part + 1) * 2097152) c.args.groups.now (omega arith) c.parts.invariant.none (c.if-repeats_in.ensures.none refl);
  numbered = λ _. c.if-repeats_in.ensures.numbered refl;
}
