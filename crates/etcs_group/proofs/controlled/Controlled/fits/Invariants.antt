use Rattle.std.proofs.Common.{◌≡◌, ℕ, ◌<◌, length, Some}
use Rattle.etcs_group.specs.Controlled.{balise_count}
use Rattle.etcs_group.specs.Mixture.{shown_aspect}
use Rattle.etcs_group.proofs.controlled.Controlled.fits.Given as goal

-- the places so far fit
abbrev pub invariant-places : goal.invariant-places
invariant-places l = record {
  eight : length l.mixture.shown ≡ 8;
  fit : (p a : ℕ) → p < l.place → shown_aspect l.mixture.shown p ≡ Some a → (p < balise_count l.self) × (a < length l.self);
}
