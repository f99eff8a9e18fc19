use Rattle.std.proofs.Common.{◌≡◌, not, drop}
use Rattle.std.specs.List.{find}
use Rattle.etcs_table.specs.Groups.{is_every}
use Rattle.etcs_table.specs.Pointed.{pointed}
use Rattle.etcs_table.proofs.aspects.first_name.Given as goal

-- the rows so far are of every aspect
abbrev pub invariant-loop-e : goal.invariant-loop-e
invariant-loop-e l = find (λ e. not (is_every e)) (drop l.e-index (pointed l.rows)) ≡ find (λ e. not (is_every e)) (pointed l.rows)
