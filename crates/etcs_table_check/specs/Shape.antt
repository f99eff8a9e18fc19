-- The groups of a table have one to eight balises in each aspect, as many as in the first.
use Rattle.std.specs.Prelude.{◌≡◌, ◌<◌, ◌≤◌, ◌==◌, ℕ, Bool, true, List, [], ◌∷◌, length, slice_index_or}
use Rattle.std.specs.List.{list_all}
use Rattle.etcs_table.specs.Entries.{Entry}
use Rattle.etcs_table.specs.Groups.{Group}

-- how many balises the first aspect has
abbrev pub size : List (List Entry) → ℕ
size aspects = length (slice_index_or aspects 0 [])

abbrev pub has_size : ℕ → List Entry → Bool
has_size n balises = length balises == n

-- There is an aspect, and each has as many balises as the first: one to eight.
pub record IsShaped (aspects : List (List Entry)) : Type 0 where
  pub some : 0 < length aspects
  pub above : 0 < size aspects
  pub few : size aspects ≤ 8
  pub sized : list_all (has_size (size aspects)) aspects ≡ true

-- the aspects of each group are such
unfoldable pub AreShaped : List Group → Type 0
AreShaped [] = Unit {0}
AreShaped (group ∷ groups) = IsShaped group.aspects × AreShaped groups
