use Rattle.std.proofs.Common.{rules, refl}
use Rattle.std.specs.Prelude.{IsTrue}
use Rattle.etcs_bits.proofs.NumberLemmas.{worth_of_digit}
use Rattle.etcs_bits.specs.layout.Rows.{alone}
use Rattle.etcs_bits.specs.variables.Variables.{ranged}
use Rattle.etcs_profile.proofs.track.linking.LinkLayout.scan.Goals as goal

-- the fields that are there and allowed are read one after the other
pub returns-in-Some-new-clause-gives : goal.returns-in-Some-new-clause-gives
unfolding alone
returns-in-Some-new-clause-gives c =
    let reaction : IsTrue ((ranged 2 2 4).allows c.in-Some-take_three.tail.1) = (c.in-Some-new.ensures.allowed.0 (search rules)).1 in
    let bit = worth_of_digit c.in-Some-take_three.tail.0 c.in-Some-take_three.ensures.small.0 in
    rw (c.in-Some-new.ensures.some, c.of_field.ensures, c.of_field-in-Some-new.ensures, c.of_field-in-Some-new-2.ensures, ← c.fork-ahead.ensures.same, c.in-Some.ensures.first, c.in-Some.ensures.second, c.if-head-eq0.true, c.in-Some.ensures.third, c.in-Some-take_three.ensures.first, c.in-Some-take_three.ensures.second, reaction, c.in-Some-take_three.ensures.third, bit) refl
