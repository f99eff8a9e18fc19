use Rattle.std.proofs.Common.{rules, refl}
use Rattle.std.specs.Prelude.{IsTrue}
use Rattle.etcs_bits.specs.layout.Rows.{alone}
use Rattle.etcs_bits.specs.variables.Variables.{ranged}
use Rattle.etcs_profile.proofs.overlap.OverlapLayout.scan.Goals as goal

-- the fields that are there and allowed are read one after the other
pub returns-in-Some-new-clause-gives : goal.returns-in-Some-new-clause-gives
unfolding alone
returns-in-Some-new-clause-gives c =
    let speed : IsTrue ((ranged 7 120 126).allows c.in-Some-take_two.tail.1) = (c.in-Some-new.ensures.allowed.0 (search rules)).1 in
    rw (c.in-Some-new.ensures.some, c.of_field.ensures, c.of_field-in-Some-new.ensures, c.of_field-in-Some-new-2.ensures, ← c.fork-ahead.ensures.same, c.in-Some.ensures.first, c.in-Some.ensures.second, c.in-Some-take_two.ensures.first, c.in-Some-take_two.ensures.second, speed) refl
