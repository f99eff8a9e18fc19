use Rattle.std.proofs.Common.{◌≡◌, ℕ, ◌<◌, List, length}
use Rattle.etcs_telegram.specs.Record.{Telegram}
use Rattle.etcs_group.specs.Controlled.{balise_count}
use Rattle.etcs_group.specs.Places.{At}
use Rattle.etcs_group.proofs.controlled.is_controlled.Given as goal

-- the aspects so far have the count of the first
abbrev pub invariant-aspects : goal.invariant-aspects
invariant-aspects l = record {
  first : l.count ≡ balise_count l.aspects;
  some : 0 < l.count;
  counts : (a : ℕ) (group : List Telegram) → a < l.aspect-index → At l.aspects a group → length group ≡ l.count;
}
