-- The two ways between a struct and its parts. Bits and JSON have the parts in one order.
use Rattle.std.specs.Prelude.{◌≡◌}

-- A struct S, and its parts P, such as pairs. `make` and `parts` turn each into the other, and are
-- inverse.
pub record Struct (P S : Type 0) : Type 0 where
  pub make : P → S
  pub parts : S → P
  pub back : (p : P) → parts (make p) ≡ p
  pub again : (s : S) → make (parts s) ≡ s

abbrev pub two_ways : {P S : Type 0} (make : P → S) (parts : S → P)
    → ((p : P) → parts (make p) ≡ p) → ((s : S) → make (parts s) ≡ s) → Struct P S
two_ways make parts back again = record { make = make; parts = parts; back = back; again = again }
