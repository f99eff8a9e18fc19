use Rattle.std.proofs.Common.{rules}
use Rattle.etcs_run.proofs.FormLemmas.{message_written}
use Rattle.etcs_run.proofs.form_lines.MessageEncoded.text_line.Goals as goal

-- the canonical text and the end of the line
pub returns-in-Ok-clause-gives : goal.returns-in-Ok-clause-gives
returns-in-Ok-clause-gives c = message_written c.args.self.now _ _ c.in-Ok.ensures.ok (search rules)
