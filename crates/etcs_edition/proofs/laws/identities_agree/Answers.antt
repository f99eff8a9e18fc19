use Rattle.std.proofs.Common.{sym, ◌∙◌}
use Rattle.etcs_edition.proofs.SoundLemmas.{identity_same}
use Rattle.etcs_edition.proofs.laws.identities_agree.Goals as goal

pub returns : goal.returns
returns c = λ aspects i. (λ is. sym (identity_same aspects) ∙ is, λ is. identity_same aspects ∙ is)
