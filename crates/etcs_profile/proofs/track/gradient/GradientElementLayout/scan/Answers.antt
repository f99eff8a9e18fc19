use Rattle.std.proofs.Common.{refl}
use Rattle.etcs_bits.proofs.NumberLemmas.{worth_of_digit}
use Rattle.etcs_bits.specs.layout.Rows.{alone}
use Rattle.etcs_profile.proofs.track.gradient.GradientElementLayout.scan.Goals as goal

-- three fields that are there are read one after the other
pub returns-in-Some-clause-gives : goal.returns-in-Some-clause-gives
unfolding alone
returns-in-Some-clause-gives c =
    let bit = worth_of_digit c.in-Some.numbers.1 c.in-Some.ensures.small.1 in
    rw (c.of_field.ensures, c.of_field-in-Some.ensures, c.in-Some.ensures.first, c.in-Some.ensures.second, c.in-Some.ensures.third, bit) refl
