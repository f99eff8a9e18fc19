-- Texts.
use Rattle.std.proofs.Common.{◌≡◌, ◌||◌, ℕ, Bool, true, false, List, [], ◌∷◌, None, Some, ap, arith, inl, inr, length, refl}
use Rattle.std.proofs.lemmas.Bool.{cases_Bool}
use Rattle.std.proofs.lemmas.Bool.Decides.{nat_tests}
use Rattle.std.proofs.lemmas.List.Sums.{prefix_len-le-length}
use Rattle.std.specs.List.{list_any, position, position_or_len}
use Rattle.std.specs.Prelude.{nat_lt, not}
use Rattle.etcs_table.specs.Text.{digits_of, is_blank}

-- neither of two tests holds
neither : (a b : Bool) → (a || b) ≡ false → (a ≡ false) × (b ≡ false)
neither true b h = let never : true ≡ false = h in (cc, cc)
neither false b h = (refl, h)

-- a text without blanks stays as it is
pub no_blanks : (text : List ℕ) → list_any is_blank text ≡ false → text ≡ digits_of text
no_blanks [] none = refl
no_blanks (c ∷ text) none =
    let parts = neither (is_blank c) (list_any is_blank text) none in
    rw parts.0 (ap (λ (rest : List ℕ). c ∷ rest) (no_blanks text parts.1))

-- a test that no item passes has no place
pub nowhere : {X : Type 0} (p : X → Bool) (xs : List X) → None ≡ position p xs → length xs ≡ position_or_len p xs
nowhere p xs none = elim (cases_Bool (nat_lt (position_or_len p xs) (length xs))) [
  | inl e ↦ let never : None ≡ Some (position_or_len p xs) = rw e at none in cc
  | inr e ↦ grind (arith, nat_tests, e, prefix_len-le-length (λ x. not (p x)) xs)
]
