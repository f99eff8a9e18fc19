use Rattle.std.proofs.Common.{rules}
use Rattle.etcs_run.proofs.FormLemmas.{telegram_written}
use Rattle.etcs_run.proofs.form_lines.TelegramEncoded.text_line.Goals as goal

-- the canonical text and the end of the line
pub returns-in-Ok-clause-gives : goal.returns-in-Ok-clause-gives
returns-in-Ok-clause-gives c = telegram_written c.args.self.now _ _ c.in-Ok.ensures.ok (search rules)
