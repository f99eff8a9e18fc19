use Rattle.std.proofs.Common.{◌≡◌, ℕ, ◌<◌, false}
use Rattle.etcs_group.specs.Assembly.{is_absent}
use Rattle.etcs_group.specs.Places.{pointed}
use Rattle.etcs_group.proofs.refusal.first_absent.Given as goal

-- no position so far
abbrev pub invariant-positions : goal.invariant-positions
invariant-positions l = (p : ℕ) → p < l.wanted → is_absent (pointed l.read) p ≡ false
