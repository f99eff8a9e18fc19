use Rattle.etcs_radio.proofs.TextLemmas.{one_text_message, one_canonical_text}
use Rattle.etcs_radio.proofs.laws.texts_are_one_to_one.Goals as goal

-- both messages are what the text means
pub returns : goal.returns
returns c = record { messages = one_text_message; texts = one_canonical_text }
