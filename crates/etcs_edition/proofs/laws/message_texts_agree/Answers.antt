use Rattle.etcs_edition.proofs.MessageLemmas.{message_text_read, read_message_text}
use Rattle.etcs_edition.proofs.laws.message_texts_agree.Goals as goal

pub returns : goal.returns
returns c = λ m text. (message_text_read m text, read_message_text m text)
