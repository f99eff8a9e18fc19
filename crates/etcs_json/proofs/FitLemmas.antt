-- Lists of records that are all allowed.
use Rattle.std.proofs.Common.{List, [], ◌∷◌}
use Rattle.std.specs.List.{AllByRecursion}

pub each_fits : {X : Type 0} (P : X → Type 0) (xs : List X) → ((x : X) → P x) → AllByRecursion P xs
each_fits P [] fits = tt
each_fits P (x ∷ xs) fits = (fits x, each_fits P xs fits)
