-- Places of a list, counted from 0, and the elements there.
use Rattle.std.specs.Prelude.{◌≡◌, ℕ, ◌<◌, Bool, false, List, map, find, slice_get, Option, Some}
use Rattle.std.specs.List.{range_with_len}
use Rattle.std.specs.Borrow.{Bor}
use Rattle.std.specs.Option.{option_map_or}

-- x is at place i
abbrev pub At : {X : Type 0} → List X → ℕ → X → Type 0
At xs i x = slice_get xs i ≡ Some x

-- the element at place i passes the test; past the end of the list none does
abbrev pub element_passes : {X : Type 0} → List X → ℕ → (X → Bool) → Bool
element_passes xs i test = option_map_or test (slice_get xs i) false

-- the least of the numbers below n that passes the test
abbrev pub least : ℕ → (ℕ → Bool) → Option ℕ
least n test = find test (range_with_len 0 n)

-- P holds of k, and of no number below it
abbrev pub IsLeast : (ℕ → Type 0) → ℕ → Type 0
IsLeast P k = P k × ((j : ℕ) → j < k → P j → ⊥)

-- the values that the references of a list refer to
abbrev pub pointed : {X : Type 0} → List (Bor X) → List X
pointed xs = map (λ x. x.now) xs
