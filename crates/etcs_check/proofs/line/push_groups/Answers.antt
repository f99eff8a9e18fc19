use Rattle.std.proofs.Common.{◌++◌, ◌%◌, ap, eqb, refl, ◌∙◌, arith}
use Rattle.std.proofs.lemmas.Nat.Bits.{bit_at-zero}
use Rattle.std.proofs.lemmas.Option.{slice_get_within}
use Rattle.etcs_group.specs.Controlled.{IsControlled}
use Rattle.etcs_check.specs.Identities.{HasIdentity, is_kept}
use Rattle.etcs_check.specs.Line.{line_group_findings, group_findings}
use Rattle.etcs_check.specs.declared.finding.Site.TheVariants as sites
use Rattle.etcs_check.proofs.IdentityLemmas.{kept_more, next_stands, numbered_before, used_told}
use Rattle.etcs_check.proofs.NoteLemmas.{each_more, each_pushed, index_at, on_err}
use Rattle.etcs_check.proofs.line.push_groups.Goals as goal

-- An identity is kept only if one is used twice, which is a finding. Otherwise the call allocated for this
-- group.
pub returns-in_err-push_next-clause-memory : goal.returns-in_err-push_next-clause-memory
returns-in_err-push_next-clause-memory c =
    let at = index_at c.args.groups.now c.places.place _ c.aspects-aspects.result.now c.places-test.true (c.aspects-aspects.ensures.value ∙ c.index-groups-place.is) in
    on_err _ _ (next_stands c.args.groups.now c.places.place c.aspects-aspects.result.now c.has_repeat-again.result at c.in_err-push_next.ensures.numbered c.has_repeat-again.ensures.found c.has_repeat-again.ensures.none c.in_err-push_next.ensures.memory)

pub places-init : goal.places-init
places-init c = record {
  all = refl;
  controlled = λ k g lt. absurd (omega arith);
  numbered = λ k g lt. absurd (omega arith);
  kept = λ again n. ap (λ pages. is_kept pages n) c.new-kept.ensures.items ∙ ap (λ v. eqb v 1) (bit_at-zero (n % 16384 % 64));
}

-- The findings of this group were appended, and its identity was kept.
pub places-preserved : goal.places-preserved
places-preserved c =
    let at = index_at c.args.groups.now c.places.place _ c.aspects-aspects.result.now c.places-test.true (c.aspects-aspects.ensures.value ∙ c.index-groups-place.is) in
    let used = used_told c.args.groups.now c.places.place c.aspects-aspects.result.now c.has_repeat-again.result (is_kept c.places.kept.items) at c.in_ok-push_next.ensures.numbered (numbered_before c.args.groups.now c.places.place c.places.invariant.numbered) c.has_repeat-again.ensures.none c.places.invariant.kept in
    record {
      all = each_pushed (line_group_findings c.args.groups.now) c.args.groups.now c.places.place c.aspects-aspects.result.now c.places.found.items _ _ at
          (c.in_ok-push_next.ensures.ok ∙ ap (λ u. c.places.found.items ++ group_findings (sites.Group c.places.place) u c.aspects-aspects.result.now) used)
          c.places.invariant.all;
      controlled = each_more (λ _. IsControlled) c.args.groups.now c.places.place c.aspects-aspects.result.now at c.places.invariant.controlled c.aspects-aspects.ensures.controlled;
      numbered = each_more (λ _. HasIdentity) c.args.groups.now c.places.place c.aspects-aspects.result.now at c.places.invariant.numbered c.in_ok-push_next.ensures.numbered;
      kept = λ again. kept_more c.args.groups.now c.places.place c.aspects-aspects.result.now (is_kept c.places.kept.items) _ at (c.in_ok-push_next.ensures.kept again) (c.places.invariant.kept again);
    }

pub returns-clause-controlled : goal.returns-clause-controlled
returns-clause-controlled c = λ k g at.
    let lt = slice_get_within c.args.groups.now k g at in
    let all = c.places-test.false in
    c.places.invariant.controlled k g (omega arith) at
