use Rattle.std.proofs.Common.{map, take}
use Rattle.std.specs.Fmt.{HasWritten, IsPlainFormatter}
use Rattle.etcs_schema.specs.Fault.{step_view}
use Rattle.etcs_schema.specs.Path.{steps_words}
use Rattle.etcs_schema.proofs.error.PathDisplay.fmt.Given as goal

-- the steps so far are written
abbrev pub invariant-steps : goal.invariant-steps
invariant-steps g l =
    IsPlainFormatter l.initial.f
    → HasWritten g.W.Write.write_str_gives l.initial.f (steps_words (map step_view (take l.step-index l.self.0.now))) l.f
