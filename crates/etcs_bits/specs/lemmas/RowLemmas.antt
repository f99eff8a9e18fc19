-- Rows of one variable, and rows that are all allowed.
use Rattle.std.specs.Prelude.{ℕ, List, [], ◌∷◌, ◌++◌, refl}
use Rattle.etcs_bits.specs.layout.Rows.{Variable, Row, AreAllowed, alone}
use Rattle.etcs_bits.specs.layout.Fields.{AreRowsOf, one}

-- the rows of one variable
pub alone_rows : (x : Variable) (n : ℕ) → AreRowsOf (one x) (alone x n)
unfolding alone
alone_rows x n = (n, [], refl, refl)

-- rows that are all allowed, in two parts
pub allowed_first : (xs ys : List Row) → AreAllowed (xs ++ ys) → AreAllowed xs
allowed_first [] ys a = tt
allowed_first (r ∷ xs) ys a = (a.0, allowed_first xs ys a.1)

pub allowed_second : (xs ys : List Row) → AreAllowed (xs ++ ys) → AreAllowed ys
allowed_second [] ys a = a
allowed_second (r ∷ xs) ys a = allowed_second xs ys a.1
