use Rattle.std.proofs.Common.{sym, ◌∙◌}
use Rattle.etcs_edition.proofs.FormLemmas.{same_telegram, same_message}
use Rattle.etcs_edition.proofs.laws.forms_agree.Goals as goal

pub returns-clause-telegrams : goal.returns-clause-telegrams
returns-clause-telegrams c = λ t form. (λ is. is ∙ same_telegram t, λ is. is ∙ sym (same_telegram t))

pub returns-clause-messages : goal.returns-clause-messages
returns-clause-messages c = λ m form. (λ is. is ∙ same_message m, λ is. is ∙ sym (same_message m))
