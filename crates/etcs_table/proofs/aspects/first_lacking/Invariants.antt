use Rattle.std.proofs.Common.{◌≡◌, drop}
use Rattle.etcs_table.specs.Groups.{entry_fault, first_of}
use Rattle.etcs_table.specs.Pointed.{pointed}
use Rattle.etcs_table.proofs.aspects.first_lacking.Given as goal

-- none so far has a fault
abbrev pub invariant-loop-e : goal.invariant-loop-e
invariant-loop-e l = first_of (entry_fault l.has_aspects l.has_numbers) (drop l.e-index (pointed l.rows)) ≡ first_of (entry_fault l.has_aspects l.has_numbers) (pointed l.rows)
