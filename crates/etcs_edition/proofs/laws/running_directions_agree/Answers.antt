use Rattle.std.proofs.Common.{sym, ◌∙◌}
use Rattle.etcs_edition.proofs.SoundLemmas.{for_same}
use Rattle.etcs_edition.proofs.laws.running_directions_agree.Goals as goal

pub returns : goal.returns
returns c = λ run p. (λ is. sym (for_same run p) ∙ is, λ is. for_same run p ∙ is)
