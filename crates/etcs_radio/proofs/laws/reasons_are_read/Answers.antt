use Rattle.etcs_radio.proofs.TextLemmas.{reason_read, read_reason}
use Rattle.etcs_radio.proofs.laws.reasons_are_read.Goals as goal

-- each step of reading refuses exactly what its reason describes
pub returns : goal.returns
returns c = λ e text other. (reason_read e text other, read_reason e text)
