use Rattle.etcs_json.specs.AnyMessage as any
use Rattle.etcs_json.specs.Telegrams as telegrams
use Rattle.etcs_schema.specs.Codec.{object}
use Rattle.etcs_edition.specs.EncodedLines.{message_form_fields, telegram_form_fields}
use Rattle.etcs_edition.specs.Keys as keys
use Rattle.etcs_edition.proofs.EncodeLemmas.{fault_read, read_fault}
use Rattle.etcs_edition.proofs.KeyMessageLemmas.{read_message, read_telegram}
use Rattle.etcs_edition.proofs.laws.form_faults_agree.Goals as goal

-- what is read of the keys is what the codecs read
pub returns-clause-telegrams : goal.returns-clause-telegrams
returns-clause-telegrams c = λ d f. (
  read_fault telegram_form_fields (keys.telegram d) ((object telegrams.telegram).of d) f (read_telegram d),
  fault_read telegram_form_fields (keys.telegram d) ((object telegrams.telegram).of d) f (read_telegram d),
)

pub returns-clause-messages : goal.returns-clause-messages
returns-clause-messages c = λ d f. (
  read_fault message_form_fields (keys.message d) (any.message.of d) f (read_message d),
  fault_read message_form_fields (keys.message d) (any.message.of d) f (read_message d),
)
