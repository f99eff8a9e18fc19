use Rattle.etcs_edition.proofs.FaultLemmas.{telegram_fault, fault_of_telegram, message_fault, fault_of_message}
use Rattle.etcs_edition.proofs.laws.first_faults_agree.Goals as goal

-- the tables of the edition are like the fields of the codecs
pub returns-clause-telegrams : goal.returns-clause-telegrams
returns-clause-telegrams c = λ bits f. (fault_of_telegram bits f, telegram_fault bits f)

pub returns-clause-messages : goal.returns-clause-messages
returns-clause-messages c = λ bytes f. (fault_of_message bytes f, message_fault bytes f)
