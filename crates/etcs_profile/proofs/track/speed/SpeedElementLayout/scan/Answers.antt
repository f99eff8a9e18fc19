use Rattle.std.proofs.Common.{rules, refl}
use Rattle.std.specs.Prelude.{IsTrue, ◌==◌}
use Rattle.std.proofs.lemmas.Result.{err_from_is_err_and}
use Rattle.etcs_bits.specs.layout.Growth.{GrowsAfter, HasItems}
use Rattle.etcs_bits.specs.layout.Reading.{forward}
use Rattle.etcs_bits.proofs.GrowthLemmas.{after_grows}
use Rattle.etcs_bits.proofs.NumberLemmas.{worth_of_digit}
use Rattle.etcs_bits.specs.layout.Rows.{alone}
use Rattle.etcs_bits.specs.variables.Variables.{ranged}
use Rattle.etcs_profile.specs.Track.{d_static, v_static, q_front}
use Rattle.etcs_profile.proofs.track.speed.SpeedElementLayout.scan.Goals as goal

-- three fields that are there and allowed are read one after the other, and then the differences
pub returns-in-Some-new-clause-gives : goal.returns-in-Some-new-clause-gives
unfolding alone
returns-in-Some-new-clause-gives c =
    let speed : IsTrue ((ranged 7 120 127).allows c.in-Some.numbers.1) = (c.in-Some-new.ensures.allowed.0 (search rules)).1 in
    let bit = worth_of_digit c.in-Some.numbers.2 c.in-Some.ensures.small.2 in
    rw (c.in-Some-new.ensures.some, c.of_field.ensures, ← c.fork-ahead.ensures.same, c.in-Some.ensures.first, c.in-Some.ensures.second, speed, c.in-Some.ensures.third, bit, c.in_ok-scan.ensures.gives) refl

-- after the three fields come the differences
pub returns-in_err-scan-clause-memory : goal.returns-in_err-scan-clause-memory
unfolding alone
returns-in_err-scan-clause-memory c =
    let e = c.in_err-scan.field-0.0 in
    let failed = err_from_is_err_and c.from_residual.result c.from_residual.ensures.1 in
    let p = c.args.cur.now in
    let speed : IsTrue ((ranged 7 120 127).allows c.in-Some.numbers.1) = (c.in-Some-new.ensures.allowed.0 (search rules)).1 in
    let bit = worth_of_digit c.in-Some.numbers.2 c.in-Some.ensures.small.2 in
    let front = after_grows e q_front.fields HasItems (forward (forward p 15) 7) c.take_three.new.self (q_front.rows (c.in-Some.numbers.2 == 1)) (rw (← c.fork-ahead.ensures.same, c.in-Some.ensures.third, bit) refl) c.in_err-scan.ensures.memory in
    let limit = after_grows e v_static.fields (GrowsAfter q_front.fields HasItems) (forward p 15) (forward (forward p 15) 7) (v_static.rows c.in-Some.numbers.1) (rw (← c.fork-ahead.ensures.same, c.in-Some.ensures.second, speed) refl) front in
    rw (failed.1, failed.2) (after_grows e d_static.fields (GrowsAfter v_static.fields (GrowsAfter q_front.fields HasItems)) p (forward p 15) (d_static.rows c.in-Some.numbers.0) (rw (← c.fork-ahead.ensures.same, c.in-Some.ensures.first) refl) limit)
