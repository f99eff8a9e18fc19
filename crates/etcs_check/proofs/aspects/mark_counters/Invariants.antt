use Rattle.std.proofs.Common.{◌≡◌, ◌||◌, ℕ, take}
use Rattle.etcs_check.specs.Findings.{has_counter}
use Rattle.etcs_check.specs.Identities.{is_marked}
use Rattle.etcs_check.proofs.aspects.mark_counters.Given as goal

-- the counters so far are marked
abbrev pub invariant-telegrams : goal.invariant-telegrams
invariant-telegrams l = (n : ℕ) → is_marked l.table n ≡ (has_counter n (take l.telegram-index l.group) || is_marked l.initial.table n)
