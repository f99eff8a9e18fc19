use Rattle.std.proofs.Common.{◌∙◌, sym, ap}
use Rattle.etcs_table.specs.Groups.{aspect_fault}
use Rattle.etcs_table.specs.Pointed.{pointed, pointed_lists}
use Rattle.etcs_table.proofs.LoopLemmas.{ended, fault-ended, fault-found, fault-passed, rest, values}
use Rattle.etcs_table.proofs.aspects.first_aspect_fault.Goals as goal

pub returns-in-Some : goal.returns-in-Some
returns-in-Some c =
    fault-found aspect_fault (pointed_lists c.args.aspects.now) c.loop-rows.rows-index (values c.rows-item.result) c.in-Some.fault _ (rest values c.args.aspects.now c.loop-rows.rows-index c.rows-item.result c.loop-rows-test.true c.rows-item.is) (ap (λ s. aspect_fault (pointed s)) (sym c.deref.ensures.value) ∙ sym c.in-Some.ensures) c.loop-rows.invariant

pub loop-rows-preserved : goal.loop-rows-preserved
loop-rows-preserved c =
    fault-passed aspect_fault (pointed_lists c.args.aspects.now) c.loop-rows.rows-index (values c.rows-item.result) _ (rest values c.args.aspects.now c.loop-rows.rows-index c.rows-item.result c.loop-rows-test.true c.rows-item.is) (ap (λ s. aspect_fault (pointed s)) (sym c.deref.ensures.value) ∙ sym c.in-None.ensures) c.loop-rows.invariant

pub returns : goal.returns
returns c = fault-ended aspect_fault (pointed_lists c.args.aspects.now) c.loop-rows.rows-index _ (ended values c.args.aspects.now c.loop-rows.rows-index c.loop-rows-test.false) c.loop-rows.invariant
