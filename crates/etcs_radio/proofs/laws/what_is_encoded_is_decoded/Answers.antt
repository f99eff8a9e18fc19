use Rattle.etcs_radio.proofs.EncodeLemmas.{encoding_message}
use Rattle.etcs_radio.proofs.MessageLemmas.{message_meant}
use Rattle.etcs_radio.proofs.laws.what_is_encoded_is_decoded.Goals as goal

-- an encoding is a message
pub returns : goal.returns
returns c = λ m bytes x. message_meant m bytes (encoding_message m bytes x)
