use Rattle.std.proofs.Common.{◌==◌, ◌∙◌, sym, ap, not}
use Rattle.etcs_table.specs.Groups.{place_in}
use Rattle.etcs_table.specs.Pointed.{pointed, pointed_lists}
use Rattle.etcs_table.proofs.LoopLemmas.{any-ended, any-found, any-passed, ended, rest, values}
use Rattle.etcs_table.proofs.aspects.is_elsewhere.Goals as goal

pub returns-then-not-is_at : goal.returns-then-not-is_at
returns-then-not-is_at c =
    any-found (λ b. not (place_in c.args.e.now b == c.args.place)) (pointed_lists c.args.aspects.now) c.loop-balises.balises-index (values c.balises-item.result) _ (rest values c.args.aspects.now c.loop-balises.balises-index c.balises-item.result c.loop-balises-test.true c.balises-item.is) (ap (λ s. not (place_in c.args.e.now (pointed s) == c.args.place)) (sym c.deref.ensures.value) ∙ ap not (sym c.if-not-is_at.ensures)) c.loop-balises.invariant

pub loop-balises-preserved : goal.loop-balises-preserved
loop-balises-preserved c =
    any-passed (λ b. not (place_in c.args.e.now b == c.args.place)) (pointed_lists c.args.aspects.now) c.loop-balises.balises-index (values c.balises-item.result) _ (rest values c.args.aspects.now c.loop-balises.balises-index c.balises-item.result c.loop-balises-test.true c.balises-item.is) (ap (λ s. not (place_in c.args.e.now (pointed s) == c.args.place)) (sym c.deref.ensures.value) ∙ ap not (sym c.if-not-is_at.ensures)) c.loop-balises.invariant

pub returns : goal.returns
returns c = any-ended (λ b. not (place_in c.args.e.now b == c.args.place)) (pointed_lists c.args.aspects.now) c.loop-balises.balises-index _ (ended values c.args.aspects.now c.loop-balises.balises-index c.loop-balises-test.false) c.loop-balises.invariant
