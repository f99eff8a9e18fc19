use Rattle.std.proofs.Common.{◌≡◌, ℕ, ◌≤◌, nat_lt, ◌&&◌, is_none}
use Rattle.etcs_group.specs.Controlled.{balise_count}
use Rattle.etcs_group.specs.Missed.{is_missed}
use Rattle.etcs_group.specs.Mixture.{shown_aspect}
use Rattle.etcs_group.proofs.controlled.Controlled.missed.Given as goal

-- the bits are those of the places so far that show nothing
abbrev pub invariant-places : goal.invariant-places
invariant-places l = record {
  end : l.place-end ≡ balise_count l.self;
  few : l.place-end ≤ 8;
  within : l.place ≤ l.place-end;
  bits : (p : ℕ) → is_missed l.bits p ≡ (nat_lt p l.place && is_none (shown_aspect l.mixture.shown p));
}
