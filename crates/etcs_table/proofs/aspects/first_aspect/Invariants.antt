use Rattle.std.proofs.Common.{◌≡◌, ◌||◌, take}
use Rattle.std.specs.List.{filter}
use Rattle.etcs_table.specs.Groups.{is_every}
use Rattle.etcs_table.specs.Pointed.{pointed}
use Rattle.etcs_table.specs.Text.{same_text}
use Rattle.etcs_table.proofs.aspects.first_aspect.Given as goal

-- the rows so far that are of the aspect
abbrev pub invariant-loop-e : goal.invariant-loop-e
invariant-loop-e l = pointed l.first.items ≡ filter (λ e. same_text e.aspect l.name || is_every e) (take l.e-index (pointed l.rows))
