use Rattle.etcs_edition.proofs.EncodingLemmas.{written_telegram, telegram_written, written_message, message_written}
use Rattle.etcs_edition.proofs.laws.written_texts_agree.Goals as goal

pub returns-clause-telegrams : goal.returns-clause-telegrams
returns-clause-telegrams c = λ t text. (written_telegram t text, telegram_written t text)

pub returns-clause-messages : goal.returns-clause-messages
returns-clause-messages c = λ m text. (written_message m text, message_written m text)
