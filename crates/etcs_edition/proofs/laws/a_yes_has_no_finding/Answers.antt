use Rattle.etcs_edition.proofs.AnswerLemmas.{yes_has_none, none_is_yes}
use Rattle.etcs_edition.proofs.laws.a_yes_has_no_finding.Goals as goal

pub returns : goal.returns
returns c = λ bytes groups messages. (
  yes_has_none bytes groups messages,
  λ x. none_is_yes bytes groups messages x.0 x.1,
)
