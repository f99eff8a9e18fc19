use Rattle.etcs_edition.proofs.AnswerLemmas.{telegram_refused, message_refused, line_refused}
use Rattle.etcs_edition.proofs.laws.refusals_agree.Goals as goal

pub returns-clause-telegrams : goal.returns-clause-telegrams
returns-clause-telegrams c = telegram_refused

pub returns-clause-messages : goal.returns-clause-messages
returns-clause-messages c = message_refused

pub returns-clause-documents : goal.returns-clause-documents
returns-clause-documents c = line_refused
