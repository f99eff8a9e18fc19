-- Which numbers levels have, and variables whose numbers are ranges.
use Rattle.std.proofs.Common.{◌≡◌, ℕ, zero, suc, ◌<◌, ◌≤◌, ◌^◌, ◌⊎◌, true, refl, arith, rules, inl, inr, leb}
use Rattle.std.specs.Prelude.{◌==◌, ◌||◌, ◌&&◌, false}
use Rattle.std.proofs.lemmas.Bool.{ne_eqb, leb-true, le-leb, and_parts, or_cases, or_right}
use Rattle.etcs_bits.specs.declared.variables.level.Level.TheVariants as levels
use Rattle.etcs_bits.specs.layout.Rows.{row, IsAllowed}
use Rattle.etcs_bits.proofs.LayoutLemmas.{laid_out}
use Rattle.etcs_bits.specs.variables.Variables.{plain, free, ranged}
use Rattle.etcs_bits.specs.variables.Level.{level_variable, level_number}
use Rattle.etcs_bits.specs.Laws.{HasLayoutLaws}
use Rattle.etcs_bits.specs.layout.Values.{HasNumbers, IsNumberOf}
use Rattle.etcs_bits.specs.layout.Format.{variable}

past : (n k : ℕ) → k < n → (n == k) ≡ false
past n k less = ne_eqb n k (λ same. absurd (omega (arith, same, less)))

level_value : (n : ℕ) → IsAllowed (row level_variable n) → IsNumberOf level_number n
level_value zero allowed = (levels.L0, refl)
level_value (suc zero) allowed = (levels.Ntc 0, refl)
level_value (suc (suc zero)) allowed = (levels.L1, refl)
level_value (suc (suc (suc zero))) allowed = (levels.L2, refl)
level_value (suc (suc (suc (suc zero)))) allowed = (levels.L3, refl)
level_value (suc (suc (suc (suc (suc n))))) allowed =
    let more = suc (suc (suc (suc (suc n)))) in
    absurd (let none = rw (past more 0 (omega arith), past more 1 (omega arith), past more 2 (omega arith), past more 3 (omega arith), past more 4 (omega arith)) at allowed.1 in cc)

level_allowed : (n : ℕ) → IsNumberOf level_number n → IsAllowed (row level_variable n)
level_allowed n (levels.L0, e) = rw (← e) (search rules)
level_allowed n (levels.Ntc ntc, e) = rw (← e) (search rules)
level_allowed n (levels.L1, e) = rw (← e) (search rules)
level_allowed n (levels.L2, e) = rw (← e) (search rules)
level_allowed n (levels.L3, e) = rw (← e) (search rules)

pub levels_have_numbers : HasNumbers level_variable 3 (IsNumberOf level_number)
levels_have_numbers = record { width = refl; numbers = λ n. (level_value n, level_allowed n) }

pub ntcs_have_numbers : HasNumbers (plain 8) 8 (λ n. n < 256)
ntcs_have_numbers = record {
  width = refl;
  numbers = λ n. (λ allowed. allowed.0, λ small. (small, refl));
}

-- ---- variables whose numbers are ranges

fits : (w : ℕ) → (leb 1 w && leb w 32) ≡ true → (1 ≤ w) × (w ≤ 32)
fits w e = let parts = and_parts (leb 1 w) (leb w 32) e in (leb-true 1 w parts.0, leb-true w 32 parts.1)

fitting : (w : ℕ) → 1 ≤ w → w ≤ 32 → (leb 1 w && leb w 32) ≡ true
fitting w low high = rw (le-leb 1 w low, le-leb w 32 high) refl

pub plain_has_numbers : (w : ℕ) → HasNumbers (plain w) w (λ n. (1 ≤ w) × (w ≤ 32) × (n < 2 ^ w))
plain_has_numbers w = record {
  width = refl;
  numbers = λ n. (
    λ allowed. let within = fits w allowed.1 in (within.0, within.1, allowed.0),
    λ (low, high, small). (small, fitting w low high),
  );
}

pub free_has_numbers : (w : ℕ) → HasNumbers (free w) w (λ n. n < 2 ^ w)
free_has_numbers w = record { width = refl; numbers = λ n. (λ allowed. allowed.0, λ small. (small, refl)) }

pub free_laid_out : (w : ℕ) → HasLayoutLaws (variable (free w))
free_laid_out w = laid_out (variable (free w))

in_range : (n last from : ℕ) → (leb n last || leb from n) ≡ true → (n ≤ last) ⊎ (from ≤ n)
in_range n last from e = elim (or_cases (leb n last) (leb from n) e) [
  | inl low ↦ inl (leb-true n last low)
  | inr high ↦ inr (leb-true from n high)
]

ranging : (n last from : ℕ) → (n ≤ last) ⊎ (from ≤ n) → (leb n last || leb from n) ≡ true
ranging n last from (inl low) = rw (le-leb n last low) refl
ranging n last from (inr high) = rw (le-leb from n high) (or_right (leb n last) true refl)

pub ranged_has_numbers : (w last from : ℕ) → HasNumbers (ranged w last from) w (λ n. (1 ≤ w) × (w ≤ 32) × (n < 2 ^ w) × ((n ≤ last) ⊎ (from ≤ n)))
ranged_has_numbers w last from = record {
  width = refl;
  numbers = λ n. (
    λ allowed.
        let parts = and_parts (leb 1 w && leb w 32) (leb n last || leb from n) allowed.1 in
        let within = fits w parts.0 in
        (within.0, within.1, allowed.0, in_range n last from parts.1),
    λ (low, high, small, ranges). (small, rw (fitting w low high) (ranging n last from ranges)),
  );
}
