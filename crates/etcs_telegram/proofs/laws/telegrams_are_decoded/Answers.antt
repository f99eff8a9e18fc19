use Rattle.etcs_telegram.proofs.TelegramLemmas.{telegram_meaning, telegram_bits}
use Rattle.etcs_telegram.proofs.LawLemmas.{means_telegram}
use Rattle.etcs_telegram.proofs.laws.telegrams_are_decoded.Goals as goal

-- reading gives the rows in the bits, which are the telegram's rows
pub returns : goal.returns
returns c = λ t bits. (
  λ x. (telegram_bits t bits x, telegram_meaning t bits x),
  λ (count, means). means_telegram t bits count means,
)
