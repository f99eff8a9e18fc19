use Rattle.etcs_edition.proofs.FaultLemmas.{none_begins, begins_none, no_message_begins, begins_no_message}
use Rattle.etcs_edition.proofs.laws.decisions_agree.Goals as goal

-- a header and packets at the beginning of 210 or 830 bits are a telegram
pub returns-clause-telegrams : goal.returns-clause-telegrams
returns-clause-telegrams c = λ bits f count. (none_begins bits f count, begins_none bits f)

pub returns-clause-messages : goal.returns-clause-messages
returns-clause-messages c = λ bytes f. (no_message_begins bytes f, begins_no_message bytes f)
