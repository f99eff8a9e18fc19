-- Reading a value as a record: one part after the other, up to the first fault.
use Rattle.std.specs.Prelude.{◌&&◌, ◌+◌, ℕ, Bool, List, [], ◌∷◌, length, Option, Some, None, Result, Ok, Err, if◌then◌else◌, nat_le, option_and_then}
use Rattle.etcs_schema.specs.Prelude.{Data, Items, item, no_items, Members, get, as_object, as_array, as_number, as_u64}
use Rattle.etcs_schema.specs.Entries.{are_known}
use Rattle.etcs_schema.specs.Fault.{Fault, Missing, Unknown, Kind, Range, key, list_item, at_once, here, prefixed_result}

infixl 10 ◌>>=◌
abbrev pub ◌>>=◌ : {A B : Type 0} → Result A Fault → (A → Result B Fault) → Result B Fault
(Ok x) >>= f = f x
(Err e) >>= f = Err e

-- what is read, as one of several kinds
abbrev pub as_kind : {A X : Type 0} → (A → X) → Result A Fault → Result X Fault
as_kind kind r = r >>= λ a. Ok (kind a)

-- ---- one value

abbrev pub allowed_or : (ℕ → Bool) → Option ℕ → Result ℕ Fault
allowed_or allowed None = Err (here Kind)
allowed_or allowed (Some n) = if allowed n then Ok n else Err (here Range)

-- a whole number that is allowed
unfoldable pub allowed_number : (ℕ → Bool) → Data → Result ℕ Fault
allowed_number allowed d = allowed_or allowed (option_and_then as_u64 (as_number d))

abbrev pub with_first : {A : Type 0} → A → Result (List A) Fault → Result (List A) Fault
with_first x (Ok xs) = Ok (x ∷ xs)
with_first x (Err f) = Err f

-- the items; the first one has this index
abbrev pub indexed_items : {A : Type 0} → (Data → Result A Fault) → ℕ → List Data → Result (List A) Fault
indexed_items read i [] = Ok []
indexed_items read i (d ∷ ds) =
    prefixed_result (list_item i) (read d) >>= λ x. with_first x (indexed_items read (i + 1) ds)

abbrev pub data_list : Items → List Data
data_list no_items = []
data_list (item d ds) = d ∷ data_list ds

-- `low` to `high` items
abbrev pub has_bounded_length : ℕ → ℕ → List Data → Bool
has_bounded_length low high ds = nat_le low (length ds) && nat_le (length ds) high

abbrev pub bounded_list_or : {A : Type 0} → (Data → Result A Fault) → ℕ → ℕ → Option Items
    → Result (List A) Fault
bounded_list_or read low high None = Err (here Kind)
bounded_list_or read low high (Some ds) =
    if has_bounded_length low high (data_list ds)
    then indexed_items read 0 (data_list ds) else Err (here Range)

-- a list of `low` to `high` items
unfoldable pub bounded_list : {A : Type 0} → (Data → Result A Fault) → ℕ → ℕ → Data → Result (List A) Fault
bounded_list read low high d = bounded_list_or read low high (as_array d)

-- ---- the members of an object

abbrev pub known_or : List (List ℕ) → Option Members → Result (Unit {0}) Fault
known_or keys None = Err (here Kind)
known_or keys (Some ms) = if are_known keys ms then Ok tt else Err (here Unknown)

-- an object with only these keys
unfoldable pub only_keys : List (List ℕ) → Data → Result (Unit {0}) Fault
only_keys keys d = known_or keys (as_object d)

abbrev pub key_or : {A : Type 0} → (Data → Result A Fault) → List ℕ → Option Data → Result A Fault
key_or read name None = Err (at_once Missing (key name))
key_or read name (Some d) = prefixed_result (key name) (read d)

-- a required member
unfoldable pub required_member : {A : Type 0} → (Data → Result A Fault) → List ℕ → Data → Result A Fault
required_member read name d = key_or read name (get name d)

-- a required member of any kind
abbrev pub any_member : List ℕ → Data → Result Data Fault
any_member name d = required_member (λ e. Ok e) name d

abbrev pub option_or : {A : Type 0} → (Data → Result A Fault) → List ℕ → Option Data → Result (Option A) Fault
option_or read name None = Ok None
option_or read name (Some d) = as_kind (λ x. Some x) (prefixed_result (key name) (read d))

-- an optional member
unfoldable pub optional_member : {A : Type 0}
    → (Data → Result A Fault) → List ℕ → Data → Result (Option A) Fault
optional_member read name d = option_or read name (get name d)

abbrev pub unwanted_or : List ℕ → Option Data → Result (Unit {0}) Fault
unwanted_or name None = Ok tt
unwanted_or name (Some d) = Err (at_once Range (key name))

-- a key that must be absent
unfoldable pub absent_member : List ℕ → Data → Result (Unit {0}) Fault
absent_member name d = unwanted_or name (get name d)
