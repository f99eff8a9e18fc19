use Rattle.std.proofs.Common.{refl, true}
use Rattle.std.proofs.lemmas.Grind.{put_two}
use Rattle.etcs_schema.proofs.PathLemmas.{steps_more}
use Rattle.etcs_schema.proofs.error.PathDisplay.fmt.Goals as goal

-- one step more is written
pub steps-preserved : goal.steps-preserved
steps-preserved g c = λ plain.
    let before = c.steps.invariant plain in
    put_two _ _ _ _ _ _ _ before (c.in_ok-write.ensures.writes before.plain (refl {a = true})) (steps_more c.args.self.now.0.now c.steps.step-index _ c.steps-test.true)
