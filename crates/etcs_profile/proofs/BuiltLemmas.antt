-- What a constructor returns.
use Rattle.std.specs.Prelude.{◌≡◌, ◌↔◌, ◌<◌, ◌≤◌, ℕ, List, ◌∷◌, length, Option, Some, None, IsSome, IfSome}
use Rattle.std.specs.List.{AllByRecursion}
use Rattle.std.proofs.Common.{arith, inl, inr, refl}
use Rattle.std.proofs.Math.Nat.{lt_of_not-le}
use Rattle.std.specs.Option.{ok_or}
use Rattle.etcs_bits.proofs.FitLemmas.{all_fit}
use Rattle.etcs_profile.specs.declared.error.BuildError.TheVariants as errors
use Rattle.etcs_profile.specs.Built.{IsBuilt, HasMany}

-- an element without a list has no list that is too long
pub many_alone : {X : Type 0} (first : X) (further : List X)
    → HasMany (λ _. Unit {0}) first further → 31 < length further
many_alone first further (inl more) = more
many_alone first further (inr some) = absurd (some (all_fit (first ∷ further)))

-- A packet with few items is built if it has few bits. If not, it is too long.
pub built_of : {X : Type 0} (o : Option X) (given : X) (many : Type 0) (n : ℕ)
    → (many → ⊥) → IfSome o (λ p. p ≡ given) → (IsSome o ↔ (n ≤ 8191))
    → IsBuilt (ok_or o errors.TooLong) given many (8191 < n)
built_of (Some x) given many n few is fits = (is, few, λ long. absurd (omega (arith, long, fits.0 refl)))
built_of None given many n few is fits =
    (few, lt_of_not-le (λ le. absurd (let some = fits.1 le in cc)))

-- at most 31 further elements, all of which fit, are not too many
pub few_of : {X : Type 0} (fit : X → Type 0) (first : X) (further : List X)
    → length further ≤ 31 → fit first → AllByRecursion fit further → HasMany fit first further → ⊥
few_of fit first further short one all (inl more) = absurd (omega (arith, more, short))
few_of fit first further short one all (inr some) = absurd (some (one, all))
