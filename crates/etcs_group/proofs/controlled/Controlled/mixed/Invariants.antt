use Rattle.std.proofs.Common.{◌≡◌, ◌-◌, ◌≤◌, ◌++◌}
use Rattle.etcs_group.specs.Controlled.{balise_count, IsControlled}
use Rattle.etcs_group.specs.Mixture.{shown_aspect}
use Rattle.etcs_group.specs.Places.{pointed}
use Rattle.etcs_group.proofs.MixtureLemmas.{mixed_from}
use Rattle.etcs_group.proofs.controlled.Controlled.mixed.Given as goal

-- what is read so far and what the remaining places show is all that is shown
abbrev pub invariant-places : goal.invariant-places
invariant-places l = record {
  controlled : IsControlled l.self;
  end : l.place-end ≡ balise_count l.self;
  few : l.place-end ≤ 8;
  all : pointed l.read.items ++ mixed_from l.self (shown_aspect l.mixture.shown) l.place (l.place-end - l.place) ≡ mixed_from l.self (shown_aspect l.mixture.shown) 0 l.place-end;
}
