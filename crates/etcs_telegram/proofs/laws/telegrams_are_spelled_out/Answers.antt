use Rattle.etcs_telegram.proofs.TelegramLemmas.{telegram_spelled, spelled_telegram}
use Rattle.etcs_telegram.proofs.laws.telegrams_are_spelled_out.Goals as goal

-- the list in the bits is made of the packets' spellings, and ends at the end mark
pub returns : goal.returns
returns c = λ t bits. (telegram_spelled t bits, spelled_telegram t bits)
