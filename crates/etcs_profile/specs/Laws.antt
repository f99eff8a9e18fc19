-- What the law of a profile's reach says.
use Rattle.std.specs.Prelude.{◌≡◌, ℕ, ◌+◌, Bool, true, false, List, ◌∷◌, ◌++◌, sum_by}
use Rattle.std.specs.List.{AllByRecursion}

-- Some element of the list is the first that is marked. The distances up to and including it have
-- this sum.
pub record IsWayToMark {X : Type 0} (distance : X → ℕ)
    (marked : X → Bool) (xs : List X) (way : ℕ) : Type 0 where
  pub before : List X
  pub first : X
  pub after : List X
  pub are : xs ≡ before ++ first ∷ after
  pub unmarked : AllByRecursion (λ x. marked x ≡ false) before
  pub mark : marked first ≡ true
  pub sum : way ≡ sum_by distance before + distance first
