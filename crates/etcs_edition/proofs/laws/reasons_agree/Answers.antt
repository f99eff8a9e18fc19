use Rattle.etcs_edition.proofs.ReasonLemmas.{telegram_reason, message_reason}
use Rattle.etcs_edition.proofs.RefusalLemmas.{reason_is, is_reason}
use Rattle.etcs_edition.proofs.laws.reasons_agree.Goals as goal

pub returns-clause-telegrams : goal.returns-clause-telegrams
returns-clause-telegrams c = telegram_reason

pub returns-clause-messages : goal.returns-clause-messages
returns-clause-messages c = message_reason

pub returns-clause-documents : goal.returns-clause-documents
returns-clause-documents c = λ bytes why. (reason_is bytes why, is_reason bytes why)
