use Rattle.std.proofs.Common.{[], refl}
use Rattle.etcs_run.specs.Output.{answers}
use Rattle.etcs_run.proofs.StreamLemmas.{Appends-none}
use Rattle.etcs_run.proofs.each_text_line.EachTextLineTextLineCommand.end.Goals as goal

-- nothing is written at the end, and nothing fails
pub returns-clause-writes : goal.returns-clause-writes
unfolding answers
returns-clause-writes g c number = record { text = []; appended = Appends-none _; says = refl }

pub returns-clause-silent : goal.returns-clause-silent
unfolding answers
returns-clause-silent g c number none = (refl, refl)
