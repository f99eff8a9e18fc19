use Rattle.std.proofs.Common.{sym}
use Rattle.etcs_table.specs.Groups.{place_fault}
use Rattle.etcs_table.specs.Pointed.{pointed, pointed_lists}
use Rattle.etcs_table.proofs.LoopLemmas.{ended, fault-ended, fault-found, fault-passed, rest, value}
use Rattle.etcs_table.proofs.aspects.first_moved.Goals as goal

pub returns-in-Some : goal.returns-in-Some
returns-in-Some c =
    fault-found (place_fault (pointed_lists c.args.aspects.now)) (pointed c.args.rows.now) c.loop-e.e-index c.e-item.result.now c.in-Some.fault _ (rest value c.args.rows.now c.loop-e.e-index c.e-item.result c.loop-e-test.true c.e-item.is) (sym c.in-Some.ensures) c.loop-e.invariant

pub loop-e-preserved : goal.loop-e-preserved
loop-e-preserved c =
    fault-passed (place_fault (pointed_lists c.args.aspects.now)) (pointed c.args.rows.now) c.loop-e.e-index c.e-item.result.now _ (rest value c.args.rows.now c.loop-e.e-index c.e-item.result c.loop-e-test.true c.e-item.is) (sym c.in-None.ensures) c.loop-e.invariant

pub returns : goal.returns
returns c = fault-ended (place_fault (pointed_lists c.args.aspects.now)) (pointed c.args.rows.now) c.loop-e.e-index _ (ended value c.args.rows.now c.loop-e.e-index c.loop-e-test.false) c.loop-e.invariant
