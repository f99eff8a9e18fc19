use Rattle.std.proofs.Common.{sym}
use Rattle.etcs_table.specs.Groups.{entry_fault}
use Rattle.etcs_table.specs.Pointed.{pointed}
use Rattle.etcs_table.proofs.LoopLemmas.{ended, fault-ended, fault-found, fault-passed, rest, value}
use Rattle.etcs_table.proofs.aspects.first_lacking.Goals as goal

pub returns-in-Some : goal.returns-in-Some
returns-in-Some c =
    fault-found (entry_fault c.args.has_aspects c.args.has_numbers) (pointed c.args.rows.now) c.loop-e.e-index c.e-item.result.now c.in-Some.fault _ (rest value c.args.rows.now c.loop-e.e-index c.e-item.result c.loop-e-test.true c.e-item.is) (sym c.in-Some.ensures) c.loop-e.invariant

pub loop-e-preserved : goal.loop-e-preserved
loop-e-preserved c =
    fault-passed (entry_fault c.args.has_aspects c.args.has_numbers) (pointed c.args.rows.now) c.loop-e.e-index c.e-item.result.now _ (rest value c.args.rows.now c.loop-e.e-index c.e-item.result c.loop-e-test.true c.e-item.is) (sym c.in-None.ensures) c.loop-e.invariant

pub returns : goal.returns
returns c = fault-ended (entry_fault c.args.has_aspects c.args.has_numbers) (pointed c.args.rows.now) c.loop-e.e-index _ (ended value c.args.rows.now c.loop-e.e-index c.loop-e-test.false) c.loop-e.invariant
