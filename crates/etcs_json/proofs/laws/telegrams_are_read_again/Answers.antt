use Rattle.etcs_json.proofs.LawLemmas.{telegram_again, telegram_allowed}
use Rattle.etcs_json.proofs.laws.telegrams_are_read_again.Goals as goal

-- The rows of each telegram are allowed.
pub returns : goal.returns
returns c = λ t allowed. telegram_again t (telegram_allowed t allowed)
