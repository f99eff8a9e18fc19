use Rattle.std.proofs.Common.{refl}
use Rattle.etcs_bits.specs.layout.Rows.{alone}
use Rattle.etcs_profile.proofs.track.transition.level_alone.Goals as goal

pub returns-in-0 : goal.returns-in-0
unfolding alone
returns-in-0 c p read = rw (read, c.in-0.is) refl

pub returns-in-2 : goal.returns-in-2
unfolding alone
returns-in-2 c p read = rw (read, c.in-2.is) refl

pub returns-in-3 : goal.returns-in-3
unfolding alone
returns-in-3 c p read = rw (read, c.in-3.is) refl

pub returns-in-4 : goal.returns-in-4
unfolding alone
returns-in-4 c p read = rw (read, c.in-4.is) refl
