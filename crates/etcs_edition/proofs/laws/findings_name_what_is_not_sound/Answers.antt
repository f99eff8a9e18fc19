use Rattle.etcs_edition.proofs.AnswerLemmas.{named_if_unsound}
use Rattle.etcs_edition.proofs.laws.findings_name_what_is_not_sound.Goals as goal

pub returns : goal.returns
returns c = named_if_unsound
