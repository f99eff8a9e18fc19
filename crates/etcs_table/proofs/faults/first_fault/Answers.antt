use Rattle.etcs_table.proofs.FaultLemmas.{found_here, found_nowhere, not_here}
use Rattle.etcs_table.proofs.faults.first_fault.Goals as goal

-- this check holds
pub returns-then-check : goal.returns-then-check
returns-then-check c = found_here c.args.checks.now c.loop-check.check-index _ c.loop-check.invariant c.loop-check-test.true c.if-check.true

-- it does not
pub loop-check-preserved : goal.loop-check-preserved
loop-check-preserved c = not_here c.args.checks.now c.loop-check.check-index _ c.loop-check.invariant c.loop-check-test.true c.if-check.false

-- no check holds
pub returns : goal.returns
returns c = found_nowhere c.args.checks.now c.loop-check.check-index c.loop-check-test.false c.loop-check.invariant
