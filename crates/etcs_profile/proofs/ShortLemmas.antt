-- Packets whose records have few bits, so that L_PACKET can count the bits of each.
use Rattle.std.proofs.Common.{◌≡◌, ℕ, ◌+◌, ◌*◌, ◌≤◌, ◌<◌, List, [], ◌∷◌, length, Option, Some, None, Result, Ok, Err, arith, inl}
use Rattle.std.specs.Prelude.{IsSome, IfSome}
use Rattle.std.specs.Option.{ok_or}
use Rattle.std.proofs.Math.Nat.{lt_of_not-le, mul-le-mul_left}
use Rattle.std.specs.List.{flat_map}
use Rattle.etcs_bits.specs.declared.variables.level.Level.TheVariants as levels
use Rattle.etcs_bits.specs.declared.variables.direction.Dir.{Dir}
use Rattle.etcs_bits.specs.layout.Rows.{alone, width}
use Rattle.etcs_bits.specs.layout.Format.{Format, if_there, several}
use Rattle.etcs_bits.specs.variables.Level.{m_level}
use Rattle.etcs_bits.proofs.WidthLemmas.{width_both}
use Rattle.etcs_profile.specs.declared.error.BuildError.{BuildError}
use Rattle.etcs_profile.specs.declared.error.BuildError.TheVariants as errors
use Rattle.etcs_profile.specs.Profile.{Profile}
use Rattle.etcs_profile.specs.Elements.{elements}
use Rattle.etcs_profile.specs.Built.{IsBuilt, IsTooLong, HasMany}
use Rattle.etcs_profile.proofs.BuiltLemmas.{many_alone}

-- each record of this format has at most n bits
abbrev pub IsShort : {X : Type 0} → Format X → ℕ → Type 0
IsShort {X} a n = (x : X) → width (a.rows x) ≤ n

pub option_short : {X : Type 0} (a : Format X) (n : ℕ) → IsShort a n → IsShort (if_there a) (1 + n)
unfolding alone
option_short a n short None = omega arith
option_short a n short (Some x) = omega (arith, short x)

pub level_short : IsShort m_level 11
unfolding alone
level_short levels.L0 = omega arith
level_short (levels.Ntc ntc) = omega arith
level_short levels.L1 = omega arith
level_short levels.L2 = omega arith
level_short levels.L3 = omega arith

items_short : {X : Type 0} (a : Format X) (n : ℕ) → IsShort a n → (xs : List X) → width (flat_map a.rows xs) ≤ n * length xs
items_short a n short [] = omega arith
items_short a n short (x ∷ xs) =
    omega (arith, width_both (a.rows x) (flat_map a.rows xs), short x, items_short a n short xs)

-- at most 31 records after N_ITER
pub several_short : {X : Type 0} (a : Format X) (n : ℕ) → IsShort a n → (xs : List X)
    → length xs ≤ 31 → width ((several a).rows xs) ≤ 5 + n * 31
unfolding alone
several_short a n short xs few =
    omega (arith, items_short a n short xs, mul-le-mul_left n few)

-- the body of a packet with at most 31 elements after the first
elements_short : {X : Type 0} (a : Format X) (n : ℕ) → IsShort a n → (e : Profile X)
    → length e.further ≤ 31 → width ((elements a).rows e) ≤ 7 + n * 32
unfolding alone
elements_short a n short e few =
    omega (arith, width_both (a.rows e.first) ((several a).rows e.further), short e.first, several_short a n short e.further few)

-- a packet of such elements is never too long
pub elements_built : {X : Type 0} (k : ℕ) (a : Format X) (n : ℕ) → IsShort a n → n * 32 ≤ 8161
    → (p : Dir × Profile X) (r : Result (Dir × Profile X) BuildError)
    → IsBuilt r p (HasMany (λ _. Unit {0}) p.1.first p.1.further) (IsTooLong k a p)
    → IsBuilt r p (31 < length p.1.further) ⊥
unfolding alone
elements_built k a n short fits p (Ok q) b = (b.0, λ more. b.1 (inl more), λ none. none)
elements_built k a n short fits p (Err errors.TooMany) b = many_alone p.1.first p.1.further b
elements_built k a n short fits p (Err errors.TooLong) b =
    let few : length p.1.further < 32 = lt_of_not-le (λ more. absurd (b.0 (inl more))) in
    absurd (omega (arith, b.1, fits, elements_short a n short p.1 (omega (arith, few))))

-- a packet that is made has been built
pub made_built : {X : Type 0} (o : Option X) (given : X) (many : Type 0) → (many → ⊥)
    → IfSome o (λ p. p ≡ given) → IsSome o → IsBuilt (ok_or o errors.TooLong) given many ⊥
made_built (Some x) given many few is made = (is, few, λ none. none)
made_built None given many few is made = absurd cc
