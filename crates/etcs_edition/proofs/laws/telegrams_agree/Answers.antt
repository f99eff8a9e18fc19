use Rattle.etcs_edition.proofs.TelegramLemmas.{read_telegram, telegram_read}
use Rattle.etcs_edition.proofs.laws.telegrams_agree.Goals as goal

pub returns : goal.returns
returns c = λ t bits. (telegram_read t bits, read_telegram t bits)
