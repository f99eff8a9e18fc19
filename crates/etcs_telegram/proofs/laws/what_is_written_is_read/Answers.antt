use Rattle.etcs_telegram.proofs.LawLemmas.{text_meaning, canonical_telegram_text}
use Rattle.etcs_telegram.proofs.laws.what_is_written_is_read.Goals as goal

-- a canonical text is a text of its telegram
pub returns : goal.returns
returns c = λ t text x. text_meaning t text (canonical_telegram_text t text x)
