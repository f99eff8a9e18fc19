-- Lists of references, as the values that they refer to.
use Rattle.std.specs.Prelude.{List, map}
use Rattle.std.specs.Borrow.{Bor}
use Rattle.std.specs.Global.{Vec}

-- the values that the references of a list refer to
abbrev pub pointed : {X : Type 0} → List (Bor X) → List X
pointed xs = map (λ x. x.now) xs

-- the same of each list
abbrev pub pointed_lists : {X : Type 0} → List (Vec (Bor X)) → List (List X)
pointed_lists lists = map (λ list. pointed list.items) lists
