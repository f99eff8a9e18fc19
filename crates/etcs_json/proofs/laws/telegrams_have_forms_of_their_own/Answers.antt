use Rattle.etcs_schema.specs.Codec.{object}
use Rattle.etcs_json.specs.Telegrams.{telegram}
use Rattle.etcs_json.proofs.LawLemmas.{telegram_allowed}
use Rattle.etcs_schema.proofs.Objects.{own_form}
use Rattle.etcs_json.proofs.laws.telegrams_have_forms_of_their_own.Goals as goal

-- One form is read as one telegram.
pub returns : goal.returns
returns c = λ t u first second same. own_form (object telegram) t u (telegram_allowed t first) (telegram_allowed u second) same
