use Rattle.std.proofs.Common.{rules, refl}
use Rattle.std.specs.Prelude.{IsTrue}
use Rattle.etcs_bits.specs.layout.Rows.{alone}
use Rattle.etcs_bits.specs.variables.Variables.{ranged}
use Rattle.etcs_profile.proofs.track.speed.DifferenceLayout.scan.Goals as goal

-- three fields that are there and allowed are read one after the other
pub returns-in-Some-new-2-clause-gives : goal.returns-in-Some-new-2-clause-gives
unfolding alone
returns-in-Some-new-2-clause-gives c =
    let kind : IsTrue ((ranged 2 2 4).allows c.in-Some.numbers.0) = (c.in-Some-new.ensures.allowed.0 (search rules)).1 in
    let speed : IsTrue ((ranged 7 120 128).allows c.in-Some.numbers.2) = (c.in-Some-new-2.ensures.allowed.0 (search rules)).1 in
    rw (c.in-Some-new.ensures.some, c.in-Some-new-2.ensures.some, c.of_field.ensures, ← c.fork-ahead.ensures.same, c.in-Some.ensures.first, kind, c.in-Some.ensures.second, c.in-Some.ensures.third, speed) refl
