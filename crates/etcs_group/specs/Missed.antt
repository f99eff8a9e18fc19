-- Balises that a train misses. A set of them is a test of places: true for those that are missed. A
-- duplicate covers only its partner.
use Rattle.std.specs.Prelude.{ℕ, ◌<◌, ◌==◌, Bool, false, length, IsTrue, IsFalse, IsSomeAnd, MatchOption, ⊤}
use Rattle.std.specs.Int.{bit_at}
use Rattle.etcs_group.specs.Group.{partner_place, Telegrams}

-- the set that a number represents: bit b is set if the balise at place b is missed
abbrev pub is_missed : ℕ → ℕ → Bool
is_missed bits b = bit_at bits b == 1

-- the empty set
abbrev pub none_missed : ℕ → Bool
none_missed b = false

-- the set has only places of the group
abbrev pub IsSetOf : Telegrams → (ℕ → Bool) → Type 0
IsSetOf group missed = (b : ℕ) → IsTrue (missed b) → b < length group

-- each missed place has a partner, and that one is not missed
abbrev pub IsCovered : Telegrams → (ℕ → Bool) → Type 0
IsCovered group missed =
    (b : ℕ) → IsTrue (missed b) → IsSomeAnd (partner_place group b) (λ p. IsFalse (missed p))

-- the place is missed, and has no partner or a partner that is missed too
abbrev pub IsLost : Telegrams → (ℕ → Bool) → ℕ → Type 0
IsLost group missed b = IsTrue (missed b) × MatchOption (partner_place group b) ⊤ (λ p. IsTrue (missed p))
