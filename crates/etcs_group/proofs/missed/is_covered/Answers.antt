use Rattle.std.proofs.Common.{◌<◌, ◌≤◌, refl, arith}
use Rattle.etcs_group.proofs.MissedLemmas.{covered-below}
use Rattle.etcs_group.proofs.missed.is_covered.Goals as goal

-- No place from 8 on can be missed.
pub returns : goal.returns
returns c =
    let w = c.well_formed in
    let small : c.args.missed.0 < 256 = omega arith in
    let high : 8 ≤ c.places.place = omega arith in
    (λ _. covered-below c.args.group.now c.args.missed.0 c.places.place small high (rw c.telegrams-telegrams.ensures.value at c.places.invariant.served), λ _. refl)
