use Rattle.std.proofs.Common.{◌≡◌, ◌==◌, not, drop}
use Rattle.std.specs.List.{list_any}
use Rattle.etcs_table.specs.Groups.{place_in}
use Rattle.etcs_table.specs.Pointed.{pointed_lists}
use Rattle.etcs_table.proofs.aspects.is_elsewhere.Given as goal

-- the entry has this place in the aspects so far
abbrev pub invariant-loop-balises : goal.invariant-loop-balises
invariant-loop-balises l = list_any (λ b. not (place_in l.e b == l.place)) (drop l.balises-index (pointed_lists l.aspects)) ≡ list_any (λ b. not (place_in l.e b == l.place)) (pointed_lists l.aspects)
