use Rattle.etcs_telegram.proofs.TelegramLemmas.{decoded_encoded}
use Rattle.etcs_telegram.proofs.laws.what_is_decoded_is_encoded.Goals as goal

-- a telegram that is spelled out leaves room for its fill
pub returns : goal.returns
returns c = decoded_encoded
