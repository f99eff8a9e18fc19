use Rattle.etcs_telegram.proofs.TelegramLemmas.{telegram_meaning, encoding_telegram}
use Rattle.etcs_telegram.proofs.laws.what_is_encoded_is_decoded.Goals as goal

-- an encoding is a telegram
pub returns : goal.returns
returns c = λ t bits x. telegram_meaning t bits (encoding_telegram t bits x)
