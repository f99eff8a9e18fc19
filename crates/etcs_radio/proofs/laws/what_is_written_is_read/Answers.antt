use Rattle.etcs_radio.proofs.TextLemmas.{text_meaning, canonical_message_text}
use Rattle.etcs_radio.proofs.laws.what_is_written_is_read.Goals as goal

-- a canonical text is a text of its message
pub returns : goal.returns
returns c = λ m text x. text_meaning m text (canonical_message_text m text x)
