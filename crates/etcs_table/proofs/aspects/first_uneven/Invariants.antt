use Rattle.std.proofs.Common.{◌≡◌, drop}
use Rattle.etcs_table.specs.Groups.{uneven_fault, first_of}
use Rattle.etcs_table.specs.Pointed.{pointed_lists}
use Rattle.etcs_table.proofs.aspects.first_uneven.Given as goal

-- none so far has a fault
abbrev pub invariant-loop-rows : goal.invariant-loop-rows
invariant-loop-rows l = first_of (uneven_fault l.count) (drop l.rows-index (pointed_lists l.aspects)) ≡ first_of (uneven_fault l.count) (pointed_lists l.aspects)
