-- Records that are made of others: a pair, an option after its qualifier, a list after its count,
-- and a packet's body after its length (SUBSET-026, 7.4: Q_, N_ITER and L_PACKET of its tables).
use Rattle.std.specs.Prelude.{ℕ, ◌+◌, nat_le, Bool, false, List, ◌++◌, length, Option, Some, None}
use Rattle.std.specs.List.{flat_map}
use Rattle.etcs_bits.specs.declared.layout.fault.FaultKind.TheVariants.{Length}
use Rattle.etcs_bits.specs.layout.Rows.{Variable, Row, alone, width}
use Rattle.etcs_bits.specs.layout.Fields.{l_packet}
use Rattle.etcs_bits.specs.variables.Variables.{plain}

-- a qualifier of one bit: 1 if the record follows
abbrev pub qualifier : Variable
qualifier = plain 1

-- N_ITER, 5 bits: how many items follow
abbrev pub n_iter : Variable
n_iter = plain 5

-- the rows of two records, one after the other
abbrev pub pair_rows : {A B : Type 0} → (A → List Row) → (B → List Row) → A × B → List Row
pair_rows rows_a rows_b p = rows_a p.0 ++ rows_b p.1

-- the qualifier, and the record if there is one
abbrev pub option_rows : {X : Type 0} → (X → List Row) → Option X → List Row
option_rows rows None = alone qualifier 0
option_rows rows (Some x) = alone qualifier 1 ++ rows x

-- the count of items, and each item
abbrev pub counted_rows : {X : Type 0} → (X → List Row) → List X → List Row
counted_rows rows xs = alone n_iter (length xs) ++ flat_map rows xs

-- L_PACKET and the record; L_PACKET counts the bits before it, its own and the record's
abbrev pub body_rows : {X : Type 0} → ℕ → (X → List Row) → X → List Row
body_rows before rows x = alone l_packet (before + (13 + width (rows x))) ++ rows x

-- L_PACKET before a body that is kept as bits. It counts the `before` bits of the packet ahead of it,
-- its own 13 and the body. A number that is less than the first two is a Length fault at once.
abbrev pub l_kept : ℕ → Variable
l_kept before = record { width = 13; allows = λ l. nat_le (before + 13) l; refusal = Length; closes = false }

-- whether L_PACKET can count a body of that many bits
abbrev pub is_countable : ℕ → ℕ → Bool
is_countable before bits = nat_le (before + 13 + bits) 8191
