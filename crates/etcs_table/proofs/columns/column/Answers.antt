use Rattle.etcs_table.specs.Heading.{reads_as}
use Rattle.etcs_table.proofs.TextLemmas.{nowhere}
use Rattle.etcs_table.proofs.columns.column.Goals as goal

-- no field is this heading
pub returns-in-None : goal.returns-in-None
returns-in-None c = nowhere (reads_as c.args.word.now) c.args.cells.now c.in-None.ensures
