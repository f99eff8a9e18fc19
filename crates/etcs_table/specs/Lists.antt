-- Rows in lists by their names: what becomes of names and lists with one more row.
use Rattle.std.specs.Prelude.{◌≡◌, ◌||◌, ℕ, not, filter, Bool, List, [], ◌∷◌, ◌++◌, if◌then◌else◌, map, slice_index_or, slice_set}
use Rattle.std.specs.List.{list_any, position_or_len}
use Rattle.etcs_table.specs.Groups.{first_names}
use Rattle.etcs_table.specs.Text.{same_text}

-- names, with one more at the end if it is new
abbrev pub with_name : List (List ℕ) → List ℕ → List (List ℕ)
with_name names name = if list_any (same_text name) names then names else names ++ name ∷ []

-- lists, with a row at the end of this one
abbrev pub with_row_at : {X : Type 0} → List (List X) → ℕ → X → List (List X)
with_row_at lists place row = slice_set lists place (slice_index_or lists place [] ++ row ∷ [])

-- lists, with a row at the end of that of its name, or of a new one that begins with the rows of every list
abbrev pub with_row : {X : Type 0} → List (List ℕ) → List X → List (List X) → List ℕ → X → List (List X)
with_row names every lists name row =
    if list_any (same_text name) names then with_row_at lists (position_or_len (same_text name) names) row
    else lists ++ (every ++ row ∷ []) ∷ []

-- lists, with a row at the end of each
abbrev pub with_row_each : {X : Type 0} → List (List X) → X → List (List X)
with_row_each lists row = map (λ list. list ++ row ∷ []) lists

-- the names of rows that are not of every list
abbrev pub names_of : {X : Type 0} → (X → List ℕ) → (X → Bool) → List X → List (List ℕ)
names_of key every xs = map key (filter (λ x. not (every x)) xs)

-- the rows of the list with this name
abbrev pub of : {X : Type 0} → (X → List ℕ) → (X → Bool) → List X → List ℕ → List X
of key every xs name = filter (λ x. same_text (key x) name || every x) xs

-- These are the names of rows in the order of their first appearance, the rows of every list, and the lists.
pub record AreLists {X : Type 0} (key : X → List ℕ) (every : X → Bool) (names : List (List ℕ)) (shared : List X) (lists : List (List X)) (xs : List X) : Type 0 where
  pub names_are : names ≡ first_names (names_of key every xs)
  pub shared_are : shared ≡ filter every xs
  pub lists_are : lists ≡ map (of key every xs) names
