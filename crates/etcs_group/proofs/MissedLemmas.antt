-- Sets of missed balises as bits.
use Rattle.std.proofs.Common.{◌≡◌, ℕ, ◌<◌, ◌≤◌, ◌^◌, Bool, false, eqb, List, ap, arith, IsTrue, IsFalse, IsSomeAnd}
use Rattle.std.proofs.lemmas.Nat.Bits.{bit_at_above}
use Rattle.std.proofs.lemmas.Bool.{cases_lt, both_ways}
use mathlib.Core.Logic.{inl, inr}
use Rattle.etcs_telegram.specs.Record.{Telegram}
use Rattle.etcs_group.specs.Group.{partner_place}
use Rattle.etcs_group.specs.Missed.{is_missed, IsCovered}

-- a number of eight bits has no place above 7
pub is_missed-above : (bits place : ℕ) → bits < 256 → 8 ≤ place → is_missed bits place ≡ false
is_missed-above bits place small high = let small' : bits < 2 ^ 8 = small in ap (λ k. eqb k 1) (bit_at_above bits 8 place small' high)

-- if the place is missed, it has a partner, and that one is not missed
abbrev pub IsServed : List Telegram → (ℕ → Bool) → ℕ → Type 0
IsServed group missed b = IsTrue (missed b) → IsSomeAnd (partner_place group b) (λ p. IsFalse (missed p))

-- only the first eight places must be served
pub covered-below : (group : List Telegram) (bits n : ℕ) → bits < 256 → 8 ≤ n → ((b : ℕ) → b < n → IsServed group (is_missed bits) b) → IsCovered group (is_missed bits)
covered-below group bits n small high h b m = elim (cases_lt b n) [
  | inl lt ↦ h b lt m
  | inr ge ↦ absurd (both_ways (is_missed bits b) (is_missed-above bits b small (omega arith)) m)
]
