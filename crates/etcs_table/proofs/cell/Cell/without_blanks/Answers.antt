use Rattle.std.proofs.Common.{◌∙◌, sym}
use Rattle.etcs_table.proofs.TextLemmas.{no_blanks}
use Rattle.etcs_table.proofs.cell.Cell.without_blanks.Goals as goal

-- the text has no blanks
pub returns : goal.returns
returns c = no_blanks c.args.self (rw c.as_slice.ensures at (sym c.has_blank.ensures ∙ c.if-has_blank.false))
