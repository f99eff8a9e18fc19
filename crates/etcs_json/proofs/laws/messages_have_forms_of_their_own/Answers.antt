use Rattle.etcs_json.specs.AnyMessage.{message}
use Rattle.etcs_json.proofs.LawLemmas.{message_allowed}
use Rattle.etcs_schema.proofs.Objects.{own_form}
use Rattle.etcs_json.proofs.laws.messages_have_forms_of_their_own.Goals as goal

-- One form is read as one message.
pub returns : goal.returns
returns c = λ m n first second same. own_form message m n (message_allowed m first) (message_allowed n second) same
