use Rattle.etcs_telegram.proofs.LawLemmas.{text_meaning, canonical_telegram_text, one_text_meaning, one_canonical_text}
use Rattle.etcs_telegram.proofs.laws.texts_are_one_to_one.Goals as goal

-- both telegrams are what the text means
pub returns : goal.returns
returns c = record {
  telegrams = λ t u text x y. one_text_meaning t u text (text_meaning t text (canonical_telegram_text t text x)) (text_meaning u text (canonical_telegram_text u text y));
  texts = one_canonical_text;
}
