use Rattle.etcs_edition.proofs.MessageLemmas.{message_read, read_message}
use Rattle.etcs_edition.proofs.laws.messages_agree.Goals as goal

pub returns : goal.returns
returns c = λ m bytes. (message_read m bytes, read_message m bytes)
