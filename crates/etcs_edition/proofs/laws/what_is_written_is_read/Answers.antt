use Rattle.etcs_radio.proofs.TextLemmas.{canonical_message_text}
use Rattle.etcs_telegram.proofs.LawLemmas.{canonical_telegram_text}
use Rattle.etcs_edition.proofs.EncodingLemmas.{written_telegram, written_message}
use Rattle.etcs_edition.proofs.MessageLemmas.{read_message_text}
use Rattle.etcs_edition.proofs.TextLemmas.{read_text}
use Rattle.etcs_edition.proofs.laws.what_is_written_is_read.Goals as goal

pub returns-clause-telegrams : goal.returns-clause-telegrams
returns-clause-telegrams c = λ t text is. read_text t text (canonical_telegram_text t text (written_telegram t text is))

pub returns-clause-messages : goal.returns-clause-messages
returns-clause-messages c = λ m text is. read_message_text m text (canonical_message_text m text (written_message m text is))
