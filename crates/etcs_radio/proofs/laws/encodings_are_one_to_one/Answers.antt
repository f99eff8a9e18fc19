use Rattle.etcs_radio.proofs.EncodeLemmas.{one_message, one_encoding}
use Rattle.etcs_radio.proofs.laws.encodings_are_one_to_one.Goals as goal

-- both messages are what the bytes mean
pub returns : goal.returns
returns c = record { messages = one_message; encodings = one_encoding }
