-- The record that a whole list of rows makes. Each function finds the record again that the rows are
-- of.
-- Pinned by the law a_record_is_read_as_it_is_spelled.
use Rattle.std.specs.Prelude.{ℕ, zero, suc, ◌+◌, ◌-◌, ◌==◌, ◌⊎◌, if◌then◌else◌, Bool, List, [], ◌∷◌, drop, Option, Some, None}
use Rattle.std.proofs.Common.{inl, inr}
use Rattle.etcs_bits.specs.bits.Number.{num}
use Rattle.etcs_bits.specs.layout.Rows.{Row}
use Rattle.etcs_bits.specs.layout.Fields.{Fields}
use Rattle.etcs_bits.specs.layout.Cut.{cut}

-- the number of the row at this place in the list, counted from 0; 0 past the end
abbrev pub row_number : ℕ → List Row → ℕ
row_number n [] = 0
row_number zero (r ∷ rows) = r.number
row_number (suc n) (r ∷ rows) = row_number n rows

-- the two records that the rows make; the first has these fields
abbrev pub pair_value : {A B : Type 0}
    → Fields → (List Row → A) → (List Row → B) → List Row → A × B
pair_value fields of_a of_b rows = (of_a (cut fields rows).0, of_b (cut fields rows).1)

-- the record after the qualifier, if there is one
abbrev pub option_value : {X : Type 0} → (List Row → X) → List Row → Option X
option_value of rows = if row_number 0 rows == 1 then Some (of (drop 1 rows)) else None

-- that many items with these fields
unfoldable pub item_values : {X : Type 0} → Fields → (List Row → X) → ℕ → List Row → List X
item_values fields of zero rows = []
item_values fields of (suc n) rows =
    of (cut fields rows).0 ∷ item_values fields of n (cut fields rows).1

-- the items after their count
abbrev pub counted_values : {X : Type 0} → Fields → (List Row → X) → List Row → List X
counted_values fields of rows = item_values fields of (row_number 0 rows) (drop 1 rows)

-- the record after L_PACKET
abbrev pub body_value : {X : Type 0} → (List Row → X) → List Row → X
body_value of rows = of (drop 1 rows)

-- the bits that L_PACKET leaves, after `before` bits of the packet and its own 13
abbrev pub kept_value : ℕ → List Row → List Bool
kept_value before rows = num (row_number 0 rows - (before + 13)) (row_number 1 rows)

-- the record of the number k, or of another number
abbrev pub either_value : {A B : Type 0} → ℕ → (List Row → A) → (ℕ → List Row → B) → ℕ → List Row → A ⊎ B
either_value k of_a of_b n rows = if n == k then inl (of_a rows) else inr (of_b n rows)
