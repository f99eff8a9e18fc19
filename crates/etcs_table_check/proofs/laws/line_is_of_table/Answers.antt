use Rattle.etcs_table.specs.Entries.{entries_of}
use Rattle.etcs_table_check.proofs.LineLemmas.{line-groups}
use Rattle.etcs_table_check.proofs.laws.line_is_of_table.Goals as goal

-- Each step was done, since no step refused the table.
pub returns : goal.returns
returns c = λ words bytes line is. line-groups (entries_of words bytes) line is
