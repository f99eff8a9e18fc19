use Rattle.etcs_telegram.proofs.LawLemmas.{text_meaning, means_text}
use Rattle.etcs_telegram.proofs.laws.texts_are_read.Goals as goal

-- each step of reading gives what the text has, and the text has what each step gives
pub returns : goal.returns
returns c = λ t text. (text_meaning t text, means_text t text)
