-- The members of an object as a list of keys, each with its value or none, in any order.
use Rattle.std.specs.Prelude.{◌≡◌, ◌&&◌, ℕ, Bool, true, not, List, [], ◌∷◌, Option, Some, None}
use Rattle.etcs_schema.specs.Prelude.{list_any, Data, Members, member, no_members, object, put, get}
use Rattle.std.specs.Str.{bytes_eq}

-- a key, and its value; None for an omitted key
abbrev pub Entry : Type 0
Entry = List ℕ × Option Data

abbrev pub entry_keys : List Entry → List (List ℕ)
entry_keys [] = []
entry_keys (e ∷ es) = e.0 ∷ entry_keys es

abbrev pub is_known : List ℕ → List (List ℕ) → Bool
is_known k ls = list_any (λ l. bytes_eq k l) ls

-- no key occurs twice
abbrev pub are_apart : List (List ℕ) → Bool
are_apart [] = true
are_apart (k ∷ ks) = not (is_known k ks) && are_apart ks

-- each key of the object is one of these
abbrev pub are_known : List (List ℕ) → Members → Bool
are_known keys no_members = true
are_known keys (member k d ms) = is_known k keys && are_known keys ms

-- the object has each of these values at its key, and nothing at an omitted key
abbrev pub HasEntries : List Entry → Data → Type 0
HasEntries [] d = Unit {0}
HasEntries (e ∷ es) d = (get e.0 d ≡ e.1) × HasEntries es d

-- ---- inserting members into an object one after the other

abbrev pub put_or : List ℕ → Option Data → Members → Members
put_or k None ms = ms
put_or k (Some d) ms = put k d ms

abbrev pub with_entries : Members → List Entry → Members
with_entries ms [] = ms
with_entries ms (e ∷ es) = with_entries (put_or e.0 e.1 ms) es

-- the object of these entries; its text has the keys in byte order
abbrev pub entries_object : List Entry → Data
entries_object es = object (with_entries no_members es)
