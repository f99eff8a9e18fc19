use Rattle.std.proofs.Common.{◌≤◌, false, length, refl, sym, ◌∙◌, arith}
use Rattle.std.proofs.lemmas.Bool.{both_ways, cases_lt}
use Rattle.std.proofs.lemmas.Option.{none-some}
use mathlib.Core.Logic.{inl, inr}
use Rattle.etcs_group.specs.Controlled.{balise_count}
use Rattle.etcs_group.specs.Mixture.{shown_aspect}
use Rattle.etcs_group.proofs.MixtureLemmas.{shown-is, shown-past, fit_more}
use Rattle.etcs_group.proofs.controlled.Controlled.fits.Goals as goal

-- This place shows what it may not show.
pub returns-then-not-may_show : goal.returns-then-not-may_show
returns-then-not-may_show c = (
  λ t. absurd (both_ways _ refl t),
  λ fits. absurd (both_ways false refl
      (c.if-not-may_show.ensures.1 (λ a is. fits c.places.place a (shown-is c.args.mixture.now.shown c.places.place ∙ is)))),
)

-- One more place fits.
pub places-preserved : goal.places-preserved
places-preserved c = record {
  eight = c.places.invariant.eight;
  fit = fit_more (balise_count c.args.self.now) (length c.args.self.now) c.places.place (shown_aspect c.args.mixture.now.shown) c.places.invariant.fit
      (λ a e. c.if-not-may_show.ensures.0 refl a (sym (shown-is c.args.mixture.now.shown c.places.place) ∙ e));
}

-- No place from 8 on shows anything.
pub returns : goal.returns
returns c = (
  λ _ p a e. elim (cases_lt p c.places.place) [
    | inl lt ↦ c.places.invariant.fit p a lt e
    | inr ge ↦
        let eight = c.places.invariant.eight in
        let end = c.places-test.false in
        let past : length c.args.mixture.now.shown ≤ p = omega arith in
        absurd (none-some a (sym (shown-past c.args.mixture.now.shown p past) ∙ e))
  ],
  λ _. refl,
)
