-- Records that are all allowed, in an option and in a list.
use Rattle.std.specs.Prelude.{List, [], ◌∷◌, Option, Some, None, IfSome}
use Rattle.std.specs.List.{AllByRecursion}

-- an option of such records
pub some_fit : {X : Type 0} (o : Option X) → IfSome o (λ _. Unit {0})
some_fit None = tt
some_fit (Some x) = tt

-- a list of them
pub all_fit : {X : Type 0} (xs : List X) → AllByRecursion (λ _. Unit {0}) xs
all_fit [] = tt
all_fit (x ∷ xs) = (tt, all_fit xs)
