use Rattle.std.proofs.Common.{sym, ◌∙◌}
use Rattle.etcs_edition.proofs.KeptLemmas.{kept_to_train, kept_to_track}
use Rattle.etcs_edition.proofs.laws.kept_packets_agree.Goals as goal

pub returns-clause-to_train : goal.returns-clause-to_train
returns-clause-to_train c = λ n bits. (λ is. sym (kept_to_train n bits) ∙ is, λ is. kept_to_train n bits ∙ is)

pub returns-clause-to_track : goal.returns-clause-to_track
returns-clause-to_track c = λ n bits. (λ is. sym (kept_to_track n bits) ∙ is, λ is. kept_to_track n bits ∙ is)
