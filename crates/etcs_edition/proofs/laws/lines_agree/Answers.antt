use Rattle.etcs_edition.proofs.DocumentLemmas.{text_is_line, line_is_text}
use Rattle.etcs_edition.proofs.laws.lines_agree.Goals as goal

pub returns : goal.returns
returns c = λ bytes groups messages. (line_is_text bytes groups messages, text_is_line bytes groups messages)
