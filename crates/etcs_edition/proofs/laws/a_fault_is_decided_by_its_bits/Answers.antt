use Rattle.std.proofs.Common.{take, sym, ap, ◌∙◌}
use Rattle.etcs_radio.proofs.MessageLemmas as messages
use Rattle.etcs_radio.proofs.NoMessageLemmas as none
use Rattle.etcs_telegram.proofs.LawLemmas as telegrams
use Rattle.etcs_edition.proofs.MessageLemmas.{message_read}
use Rattle.etcs_edition.proofs.TelegramLemmas.{telegram_read}
use Rattle.etcs_edition.proofs.TextLemmas.{same_bytes}
use Rattle.etcs_edition.proofs.laws.a_fault_is_decided_by_its_bits.Goals as goal

-- the definitions of the codecs have no telegram and no message that begins with these bits
pub returns-clause-telegrams : goal.returns-clause-telegrams
returns-clause-telegrams c = λ bits others f t refused count same is.
    let begins = (telegram_read t others is).begins in
    telegrams.fault_none bits f (telegrams.meant_fault bits f refused) others count same t.header t.packets begins.end begins.whole

pub returns-clause-messages : goal.returns-clause-messages
returns-clause-messages c = λ bytes others f m refused count same is.
    let same_bits = ap (take f.end) (same_bytes others) ∙ same ∙ sym (ap (take f.end) (same_bytes bytes)) in
    none.fault_none bytes f (messages.meant_fault bytes f refused) others count same_bits m (message_read m others is)
