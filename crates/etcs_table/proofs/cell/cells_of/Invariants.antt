use Rattle.std.proofs.Common.{◌≡◌, take}
use Rattle.etcs_table.proofs.cell.cells_of.Given as goal

abbrev pub invariant-loop-field : goal.invariant-loop-field
invariant-loop-field l = l.cells.items ≡ take l.field-index l.fields
