use Rattle.etcs_radio.proofs.TextLemmas.{text_meaning, means_text}
use Rattle.etcs_radio.proofs.laws.texts_are_read.Goals as goal

-- the text's bytes are the message
pub returns : goal.returns
returns c = λ m text. (text_meaning m text, means_text m text)
