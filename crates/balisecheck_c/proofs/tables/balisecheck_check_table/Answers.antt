use Rattle.etcs_table.specs.Heading.{usual_words}
use Rattle.etcs_table_run.specs.TableOutput.{table_output}
use Rattle.balisecheck_c.proofs.tables.balisecheck_check_table.Goals as goal

-- what is answered is the text of the table with its status
pub returns : goal.returns
returns c = c.answer.ensures.means (table_output usual_words c.args.input.now) c.output_of.ensures
