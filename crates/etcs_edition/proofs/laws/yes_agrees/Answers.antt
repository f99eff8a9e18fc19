use Rattle.etcs_edition.proofs.YesLemmas.{check_says_yes, edition_says_yes}
use Rattle.etcs_edition.proofs.laws.yes_agrees.Goals as goal

pub returns : goal.returns
returns c = λ bytes groups messages. (check_says_yes bytes groups messages, edition_says_yes bytes groups messages)
