use Rattle.etcs_telegram.proofs.TelegramLemmas.{encoding_telegram}
use Rattle.etcs_telegram.proofs.laws.encodings_are_telegrams.Goals as goal

-- the telegram's rows are at the front of their own join
pub returns : goal.returns
returns c = encoding_telegram
