use Rattle.std.proofs.Common.{◌≡◌, drop}
use Rattle.etcs_check.specs.Findings.{first_counter}
use Rattle.etcs_check.proofs.balise_rules.first_counter.Given as goal

-- the first of the remaining telegrams is the first
abbrev pub invariant-telegrams : goal.invariant-telegrams
invariant-telegrams l = first_counter (drop l.telegram-index l.group) ≡ first_counter l.group
