use Rattle.std.proofs.Common.{◌≡◌, ◌++◌, ◌||◌, eqb, ℕ, ap, ap₂, refl, rules, subst, sym, ◌∙◌}
use Rattle.etcs_check.specs.Line.{group_findings}
use Rattle.etcs_check.specs.Identities.{identity_number, is_kept}
use Rattle.etcs_check.specs.LineChecker.{HasChecked}
use Rattle.etcs_check.specs.declared.finding.Site.TheVariants as sites
use Rattle.etcs_check.proofs.CheckerLemmas.{group_taken, unless_refused}
use Rattle.etcs_check.proofs.line_checker.LineChecker.group.Goals as goal

-- The findings of this group were appended, and its identity is kept now.
pub returns-clause-ok : goal.returns-clause-ok
returns-clause-ok c = λ gs ms was.
    let group = c.aspects-aspects.result.now in
    let number = c.identity_number-identity.ensures.value in
    let used : c.is_kept-used.result ≡ is_kept c.self.inside.identities.items (identity_number group) = c.is_kept-used.ensures ∙ ap₂ is_kept c.deref.ensures.value number in
    let found = c.in_ok-found.ensures.ok ∙ ap (λ u. group_findings (sites.Group c.self.inside.groups) u group) used in
    let kept : (n : ℕ) → is_kept c.keep.new.pages.items n ≡ (eqb c.identity_number-identity.result n || is_kept c.self.inside.identities.items n) = unless_refused c.keep.result _ (sym c.is_err.ensures.value ∙ c.if-is_err.false) c.keep.ensures.ok in
    group_taken _ _ group c.args.group.now c.aspects-aspects.ensures.value c.aspects-aspects.ensures.controlled c.identity_number-identity.ensures.numbered (c.in_ok-append.ensures.ok ∙ ap (λ l. c.self.inside.about_groups.items ++ l) found) refl (search rules) refl (λ n. rw (← number) (kept n)) gs ms (subst (λ k. HasChecked k gs ms) (sym c.self.view_is) was)
