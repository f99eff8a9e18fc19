use Rattle.std.proofs.Common.{◌≡◌, drop}
use Rattle.etcs_table.specs.Groups.{place_fault, first_of}
use Rattle.etcs_table.specs.Pointed.{pointed, pointed_lists}
use Rattle.etcs_table.proofs.aspects.first_moved.Given as goal

-- none so far has a fault
abbrev pub invariant-loop-e : goal.invariant-loop-e
invariant-loop-e l = first_of (place_fault (pointed_lists l.aspects)) (drop l.e-index (pointed l.rows)) ≡ first_of (place_fault (pointed_lists l.aspects)) (pointed l.rows)
