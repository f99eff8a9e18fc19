use Rattle.std.proofs.Common.{◌≡◌, take, map}
use Rattle.etcs_table.specs.Groups.{in_order}
use Rattle.etcs_table.specs.Pointed.{pointed_lists}
use Rattle.etcs_table.proofs.aspects.all_in_order.Given as goal

-- the aspects so far are in order
abbrev pub invariant-loop-rows : goal.invariant-loop-rows
invariant-loop-rows l = pointed_lists l.sorted.items ≡ map in_order (take l.rows-index (pointed_lists l.aspects))
