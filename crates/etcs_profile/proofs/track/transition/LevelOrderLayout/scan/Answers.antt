use Rattle.std.proofs.Common.{refl}
use Rattle.etcs_bits.specs.layout.Rows.{alone}
use Rattle.etcs_profile.proofs.track.transition.LevelOrderLayout.scan.Goals as goal

-- a level without NID_NTC, and then L_ACKLEVELTR
pub returns-in-Some-level_alone-clause-gives : goal.returns-in-Some-level_alone-clause-gives
unfolding alone
returns-in-Some-level_alone-clause-gives c =
    let level = c.in-Some-level_alone.ensures c.fork-ahead.result c.in-Some.ensures.first in
    rw (c.of_field.ensures, ← c.fork-ahead.ensures.same, level, c.in-Some.ensures.second) refl
