use Rattle.etcs_json.proofs.LawLemmas.{message_again, message_allowed}
use Rattle.etcs_json.proofs.laws.messages_are_read_again.Goals as goal

-- The rows of each message are allowed.
pub returns : goal.returns
returns c = λ m allowed. message_again m (message_allowed m allowed)
