use Rattle.std.proofs.Common.{◌≡◌, arith, reverse, sym, ap, ◌∙◌, Some}
use Rattle.std.proofs.lemmas.Grind.{common_steps}
use Rattle.std.proofs.lemmas.Option.{slice_get-get_or}
use Rattle.etcs_group.specs.Missed.{is_missed}
use Rattle.etcs_group.specs.Places.{At, pointed}
use Rattle.etcs_group.proofs.PointedLemmas.{reverse-pointed}
use Rattle.etcs_group.proofs.ReadingLemmas.{kept_from, kept-is, reading-some}
use Rattle.etcs_group.proofs.StepLemmas.{on_err}
use Rattle.etcs_group.proofs.group.Group.reading.Goals as goal

-- The telegram that is to be pushed is read.
pub returns-in_err-push-clause-memory : goal.returns-in_err-push-clause-memory
returns-in_err-push-clause-memory c =
    let at : At c.telegrams-telegrams.result.now c.telegrams.place c.index-telegrams-place.result = slice_get-get_or _ c.telegrams.place c.index-telegrams-place.result c.telegrams-test.true ∙ ap Some (sym c.index-telegrams-place.is) in
    on_err _ _ (reading-some c.args.self.now (is_missed c.args.missed.0) c.args.run c.telegrams.place c.index-telegrams-place.result (rw c.telegrams-telegrams.ensures.value at at) (sym c.if-not-has.ensures))

-- What is kept is passed in its own order.
pub returns-in-Nominal-clause-ok : goal.returns-in-Nominal-clause-ok
returns-in-Nominal-clause-ok c =
    let all : pointed c.telegrams.read.items ≡ kept_from 0 (is_missed c.args.missed.0) c.args.self.now = grind (arith, common_steps) in
    rw c.in-Nominal.is (all ∙ sym (kept-is (is_missed c.args.missed.0) c.args.self.now))

-- What is kept is reversed.
pub returns-in-Reverse-clause-ok : goal.returns-in-Reverse-clause-ok
returns-in-Reverse-clause-ok c =
    let all : pointed c.telegrams.read.items ≡ kept_from 0 (is_missed c.args.missed.0) c.args.self.now = grind (arith, common_steps) in
    rw (c.in-Reverse.is, c.reverse.ensures.items) (reverse-pointed c.telegrams.read.items ∙ ap reverse (all ∙ sym (kept-is (is_missed c.args.missed.0) c.args.self.now)))
