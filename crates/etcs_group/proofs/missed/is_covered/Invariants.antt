use Rattle.std.proofs.Common.{◌≡◌, ℕ, ◌<◌}
use Rattle.etcs_group.specs.Missed.{is_missed}
use Rattle.etcs_group.proofs.MissedLemmas.{IsServed}
use Rattle.etcs_group.proofs.missed.is_covered.Given as goal

-- the places so far are served
abbrev pub invariant-places : goal.invariant-places
invariant-places l = record {
  same : l.telegrams ≡ l.group;
  served : (b : ℕ) → b < l.place → IsServed l.telegrams (is_missed l.missed.0) b;
}
