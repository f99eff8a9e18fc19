use Rattle.etcs_edition.proofs.TextLemmas.{text_read, read_text}
use Rattle.etcs_edition.proofs.laws.telegram_texts_agree.Goals as goal

pub returns : goal.returns
returns c = λ t text. (text_read t text, read_text t text)
