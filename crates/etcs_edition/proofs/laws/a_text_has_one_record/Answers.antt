use Rattle.std.proofs.Common.{◌≡◌, Result, Ok, sym, ◌∙◌}
use Rattle.etcs_radio.proofs.TextLemmas as messages
use Rattle.etcs_telegram.proofs.LawLemmas as telegrams
use Rattle.etcs_edition.proofs.MessageLemmas.{message_text_read}
use Rattle.etcs_edition.proofs.TextLemmas.{text_read}
use Rattle.etcs_edition.proofs.laws.a_text_has_one_record.Goals as goal

one_result : {A E : Type 0} (r : Result A E) (x y : A) → r ≡ Ok x → r ≡ Ok y → x ≡ y
one_result r x y a b = let same = sym a ∙ b in cc

-- what a text means is one result
pub returns-clause-telegrams : goal.returns-clause-telegrams
returns-clause-telegrams c = λ t u text a b.
    one_result _ t u (telegrams.text_meaning t text (text_read t text a)) (telegrams.text_meaning u text (text_read u text b))

pub returns-clause-messages : goal.returns-clause-messages
returns-clause-messages c = λ m k text a b.
    one_result _ m k (messages.text_meaning m text (message_text_read m text a)) (messages.text_meaning k text (message_text_read k text b))
