use Rattle.std.proofs.Common.{◌||◌, ◌/◌, eqb, ap, sym, ◌∙◌, arith}
use Rattle.etcs_check.specs.Identities.{is_kept}
use Rattle.etcs_check.proofs.IdentityLemmas.{kept_again, kept_marked, kept_same}
use Rattle.etcs_check.proofs.NoteLemmas.{on_err}
use Rattle.etcs_check.proofs.identities.keep.Goals as goal

-- The number is marked in its page.
pub returns-clause-ok : goal.returns-clause-ok
returns-clause-ok c = λ n.
    kept_marked c.pages.pages.items c.index_mut.result.now c.mark_in.new.page c.args.number (omega arith) (sym c.index_mut.ensures.value) c.in_ok-mark_in.ensures.ok n ∙ ap (λ b. eqb c.args.number n || b) (c.pages.invariant n)

pub returns-then-is_kept-clause-ok : goal.returns-then-is_kept-clause-ok
returns-then-is_kept-clause-ok c = kept_again (is_kept c.args.pages.now.items) c.args.number (ap (λ pages. is_kept pages c.args.number) (sym c.deref.ensures.value) ∙ sym c.is_kept.ensures ∙ c.if-is_kept.true)

-- Its page has the same words.
pub returns-in_err-mark_in-clause-err : goal.returns-in_err-mark_in-clause-err
returns-in_err-mark_in-clause-err c =
    on_err _ _ (kept_same c.args.pages.now.items c.pages.pages.items c.index_mut.result.now c.mark_in.new.page (c.args.number / 16384) (sym c.index_mut.ensures.value) c.in_err-mark_in.ensures.err c.pages.invariant)
