use Rattle.std.proofs.Common.{rules, refl}
use Rattle.std.specs.Prelude.{IsTrue}
use Rattle.etcs_bits.specs.layout.Rows.{alone}
use Rattle.etcs_bits.specs.variables.Variables.{ranged}
use Rattle.etcs_profile.proofs.danger_point.DangerPointLayout.scan.Goals as goal

-- two fields that are there and allowed are read one after the other
pub returns-in-Some-new-clause-gives : goal.returns-in-Some-new-clause-gives
unfolding alone
returns-in-Some-new-clause-gives c =
    let speed : IsTrue ((ranged 7 120 126).allows c.in-Some.numbers.1) = (c.in-Some-new.ensures.allowed.0 (search rules)).1 in
    rw (c.in-Some-new.ensures.some, c.of_field.ensures, ← c.fork-ahead.ensures.same, c.in-Some.ensures.first, c.in-Some.ensures.second, speed) refl
