-- Lists of any length, and records with a condition that is checked after they are read.
use Rattle.std.specs.Prelude.{◌≡◌, ◌++◌, ℕ, suc, Bool, true, false, List, Option, Some, None, Result, Ok, Err, option_map}
use Rattle.etcs_schema.specs.Prelude.{flat_map, Data, Items, array, as_array, AreAllowed, Row, alone}
use Rattle.etcs_bits.specs.declared.layout.fault.FaultKind.TheVariants.{Spare}
use Rattle.etcs_schema.specs.Fault.{Fault, Kind, here}
use Rattle.etcs_schema.specs.Reading.{data_list, has_bounded_length, indexed_items}
use Rattle.etcs_schema.specs.Codec.{MemberCodec, Codec, items_again, list_back, encoded_items, with_bits, tested}

-- ---- lists

abbrev pub items_or : {A : Type 0} → (Data → Result A Fault) → Option Items → Result (List A) Fault
items_or read None = Err (here Kind)
items_or read (Some ds) = indexed_items read 0 (data_list ds)

-- a list of `low` to `high` items
abbrev pub IsBoundedList : ℕ → ℕ → Data → Type 0
IsBoundedList low high d = option_map (λ ds. has_bounded_length low high (data_list ds)) (as_array d) ≡ Some true

-- the items of a list, in their order
unfoldable pub unbounded_list : {A : Type 0} → (Data → Result A Fault) → Data → Result (List A) Fault
unbounded_list read d = items_or read (as_array d)

pub listed_again : {X : Type 0} (s : Codec X) (xs : List X) → AreAllowed (flat_map s.rows xs)
    → unbounded_list s.of (array (encoded_items s.to xs)) ≡ Ok xs
unfolding unbounded_list
listed_again s xs allowed = items_again s 0 xs allowed

-- a list of any length
abbrev pub listed : {X : Type 0} → Codec X → Codec (List X)
listed s = record {
  rows = flat_map s.rows;
  to = λ xs. array (encoded_items s.to xs);
  of = unbounded_list s.of;
  again = listed_again s;
  back = (suc s.back.0, list_back s);
}

-- ---- records with a condition

-- a row of no bits, allowed if the condition holds, and then the other rows of a record
abbrev pub rows_holding : {X : Type 0} → (X → Bool) → (X → List Row) → X → List Row
rows_holding holds rows x =
    alone (record { width = 0; allows = λ _. holds x; refusal = Spare; closes = false }) 0 ++ rows x

pub held : {X : Type 0} (holds : X → Bool) (rows : X → List Row) (x : X)
    → AreAllowed (rows_holding holds rows x) → (holds x ≡ true) × AreAllowed (rows x)
unfolding alone
held holds rows x allowed = (allowed.0.1, allowed.1)

-- the members of records that must meet a condition; a record that does not meet it has the fault
abbrev pub holding : {X : Type 0} {rows : X → List Row} → Fault → (holds : X → Bool) → MemberCodec rows
    → MemberCodec (rows_holding holds rows)
holding {rows = rows} fault holds a =
    tested fault holds (λ x allowed. (held holds rows x allowed).0)
    (with_bits (rows_holding holds rows) (λ x allowed. (held holds rows x allowed).1) a)
