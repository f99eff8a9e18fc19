use Rattle.std.proofs.Common.{◌≡◌, refl, arith}
use Rattle.etcs_bits.specs.layout.Rows.{alone}
use Rattle.etcs_profile.proofs.section.SectionLayout.scan.Goals as goal

-- a section without a timer
pub returns-then-head-eq0-clause-gives : goal.returns-then-head-eq0-clause-gives
unfolding alone
returns-then-head-eq0-clause-gives c =
    rw (c.of_field-length.ensures, c.in-Some.ensures.first, c.in-Some.ensures.second, c.if-head-eq0.true) refl

-- a section, and then its timer
pub returns-in-Some-clause-gives : goal.returns-in-Some-clause-gives
unfolding alone
returns-in-Some-clause-gives c =
    let there : c.in-Some.head.1 ≡ 1 = omega (arith, c.if-head-eq0.false, c.in-Some.ensures.small.1) in
    rw (c.of_field-length.ensures, c.in-Some.ensures.first, c.in-Some.ensures.second, there, c.in_ok-timer.ensures.gives) refl
