use Rattle.std.proofs.Common.{refl}
use Rattle.etcs_bits.specs.layout.Rows.{alone}
use Rattle.etcs_profile.proofs.section.SectionTimerLayout.scan.Goals as goal

-- two fields that are there are read one after the other
pub returns-in-Some-clause-gives : goal.returns-in-Some-clause-gives
unfolding alone
returns-in-Some-clause-gives c =
    rw (c.of_field.ensures, c.of_field-in-Some.ensures, c.in-Some.ensures.first, c.in-Some.ensures.second) refl
