use Rattle.std.proofs.Common.{◌<◌, ◌≤◌, sym, ◌∙◌, arith}
use Rattle.std.proofs.lemmas.Bool.{le-ltb}
use Rattle.etcs_group.proofs.MissedLemmas.{is_missed-above}
use Rattle.etcs_group.proofs.missed.Missed.has.Goals as goal

-- A place from 8 on has no bit.
pub returns-else-place-lt8 : goal.returns-else-place-lt8
returns-else-place-lt8 c =
    let w = c.well_formed in
    let high : 8 ≤ c.args.place = omega arith in
    let small : c.args.self.0 < 256 = omega arith in
    le-ltb c.args.place 8 high ∙ sym (is_missed-above c.args.self.0 c.args.place small high)
