-- No row is left out: where the groups of a table have its rows. How often a row is somewhere is counted by a test that
-- only this row passes.
use Rattle.std.specs.Prelude.{◌≡◌, ℕ, ◌<◌, not, Bool, List, count_by, filter, length, sum_by}
use Rattle.etcs_table.specs.Entries.{Entry}
use Rattle.etcs_table.specs.Groups.{aspect_names, group_names, in_order, is_every, of_aspect, of_group}

-- how many of these entries, which name an aspect, pass a test
abbrev pub own_count : (Entry → Bool) → List Entry → ℕ
own_count p entries = count_by p (filter (λ e. not (is_every e)) entries)

-- how many of these entries, which are of every aspect, pass a test
abbrev pub every_count : (Entry → Bool) → List Entry → ℕ
every_count p entries = count_by p (filter is_every entries)

pub record NoRowIsLeftOut : Type 0 where
  -- each row is in one group, and there once
  pub one_group : (p : Entry → Bool) (entries : List Entry)
      → sum_by (λ name. count_by p (of_group entries name)) (group_names entries) ≡ count_by p entries
  -- a row that names an aspect is in one aspect of its group, and there once
  pub one_aspect : (p : Entry → Bool) (entries : List Entry)
      → sum_by (λ name. own_count p (of_aspect entries name)) (aspect_names entries) ≡ own_count p entries
  -- a row of every aspect is in each aspect of its group once
  pub each_aspect : (p : Entry → Bool) (entries : List Entry) (name : List ℕ)
      → every_count p (of_aspect entries name) ≡ every_count p entries
  -- each group has an aspect
  pub some_aspect : (entries : List Entry) → 0 < length (aspect_names entries)
  -- the rows of an aspect stay the same in the order of their balises
  pub order : (p : Entry → Bool) (entries : List Entry) → count_by p (in_order entries) ≡ count_by p entries
