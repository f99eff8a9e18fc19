use Rattle.std.proofs.Common.{◌||◌, eqb, ap, ◌∙◌, arith}
use Rattle.std.proofs.lemmas.List.{with_items_is}
use Rattle.etcs_check.specs.Identities.{is_marked}
use Rattle.etcs_check.proofs.IdentityLemmas.{marked_grown}
use Rattle.etcs_check.proofs.identities.mark_in.Goals as goal

-- The page has grown, which marks nothing, and the place is marked.
pub returns-clause-ok : goal.returns-clause-ok
returns-clause-ok c = λ p.
    ap (λ t. is_marked t p) (with_items_is c.resize.new.self c.mark.new.table (c.mark.auto.table ∙ c.deref_mut.ensures.len))
    ∙ c.mark.ensures.after p
    ∙ ap (λ t. eqb c.args.place p || is_marked t p) c.deref_mut.ensures.value
    ∙ ap (λ b. eqb c.args.place p || b) (marked_grown c.args.page.now.items c.resize.new.self.items c.max.result _ (omega arith) c.in_ok-resize.ensures.items p)
