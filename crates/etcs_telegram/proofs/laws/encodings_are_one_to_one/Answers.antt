use Rattle.std.proofs.Common.{◌∙◌, sym}
use Rattle.etcs_telegram.proofs.TelegramLemmas.{telegram_meaning, encoding_telegram}
use Rattle.etcs_telegram.proofs.LawLemmas.{one_meaning}
use Rattle.etcs_telegram.proofs.laws.encodings_are_one_to_one.Goals as goal

-- both telegrams are what the bits mean
pub returns : goal.returns
returns c = record {
  telegrams = λ t u bits x y. one_meaning t u bits (telegram_meaning t bits (encoding_telegram t bits x)) (telegram_meaning u bits (encoding_telegram u bits y));
  encodings = λ t a b x y. x.canonical ∙ sym y.canonical;
}
