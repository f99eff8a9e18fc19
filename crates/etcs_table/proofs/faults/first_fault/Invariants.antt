use Rattle.std.proofs.Common.{◌≡◌, drop}
use Rattle.etcs_table.specs.Faults.{first_fault}
use Rattle.etcs_table.proofs.faults.first_fault.Given as goal

-- the checks so far found nothing
abbrev pub invariant-loop-check : goal.invariant-loop-check
invariant-loop-check l = first_fault (drop l.check-index l.checks) ≡ first_fault l.checks
