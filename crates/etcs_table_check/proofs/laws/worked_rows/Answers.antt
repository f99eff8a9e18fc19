use Rattle.std.proofs.Common.{refl}
use Rattle.etcs_table_check.proofs.laws.worked_rows.Goals as goal

-- computed
pub returns : goal.returns
returns c = record { balise = refl; all_aspects = refl; every_aspect = refl; one_aspect = refl; group = refl; aspect = refl }
