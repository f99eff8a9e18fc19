use Rattle.etcs_check.proofs.ViolationLemmas.{a_sound_line_has_no_violation}
use Rattle.etcs_check.proofs.laws.a_sound_line_has_no_violation.Goals as goal

-- A sound line has no finding, so each part holds.
pub returns : goal.returns
returns c = a_sound_line_has_no_violation
