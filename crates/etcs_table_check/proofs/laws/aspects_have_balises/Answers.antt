use Rattle.etcs_table_check.proofs.ShapeLemmas.{groups-shaped}
use Rattle.etcs_table_check.proofs.laws.aspects_have_balises.Goals as goal

-- Each other group has a fault.
pub returns : goal.returns
returns c = groups-shaped
