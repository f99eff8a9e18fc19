use Rattle.std.proofs.Common.{◌≡◌, drop}
use Rattle.etcs_table.specs.Groups.{aspect_fault, first_of}
use Rattle.etcs_table.specs.Pointed.{pointed_lists}
use Rattle.etcs_table.proofs.aspects.first_aspect_fault.Given as goal

-- none so far has a fault
abbrev pub invariant-loop-rows : goal.invariant-loop-rows
invariant-loop-rows l = first_of aspect_fault (drop l.rows-index (pointed_lists l.aspects)) ≡ first_of aspect_fault (pointed_lists l.aspects)
