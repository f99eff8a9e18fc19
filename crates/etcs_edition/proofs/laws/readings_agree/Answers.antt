use Rattle.etcs_edition.proofs.OneRecordLemmas.{is_message, is_telegram, message_is, telegram_is}
use Rattle.etcs_edition.proofs.laws.readings_agree.Goals as goal

-- the fields determine the record
pub returns-clause-telegrams : goal.returns-clause-telegrams
returns-clause-telegrams c = λ d t. (telegram_is d t, is_telegram d t)

pub returns-clause-messages : goal.returns-clause-messages
returns-clause-messages c = λ d m. (message_is d m, is_message d m)
