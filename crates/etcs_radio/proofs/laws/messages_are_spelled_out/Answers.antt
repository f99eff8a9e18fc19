use Rattle.etcs_radio.proofs.EncodeLemmas.{message_spelled, spelled_message}
use Rattle.etcs_radio.proofs.laws.messages_are_spelled_out.Goals as goal

-- the list in the bits is made of the packets' spellings
pub returns : goal.returns
returns c = λ m bytes. (message_spelled m bytes, spelled_message m bytes)
