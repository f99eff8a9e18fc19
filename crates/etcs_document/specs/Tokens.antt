-- Values, members and items read from the tokens of a text, without building a JSON value.
use Rattle.std.specs.Prelude.{◌≡◌, ◌≤◌, ℕ, List, [], ◌∷◌, length, Option}
use Rattle.json.specs.Json.{members, value}
use Rattle.json.specs.Token.{Token}
use Rattle.serde_json.specs.Data.{Data, Items, Members, item}
use Rattle.serde_json.specs.Read.{converted, of_json, of_members}
use Rattle.etcs_schema.specs.Entries.{Entry, with_entries}

-- ---- one value

-- the first value of the tokens, nested at most `depth` deep
abbrev pub first_value : ℕ → List Token → Option (Data × List Token)
first_value depth tokens = converted of_json (value depth tokens)

-- ---- the members of an object

-- these entries are the first members of the tokens
pub record HasMembers (depth : ℕ) (es : List Entry) (old new : List Token) : Type 0 where
  pub one_by_one : (ms : Members) (turns : ℕ) → length old ≤ turns → (left : ℕ) × (length new ≤ left)
      × (converted (λ r. of_members r ms) (members (value depth) turns old)
      ≡ converted (λ r. of_members r (with_entries ms es)) (members (value depth) left new))

-- ---- the items of a list

-- the items, with these values in front of them
abbrev pub prepend_items : List Data → Items → Items
prepend_items [] rest = rest
prepend_items (d ∷ ds) rest = item d (prepend_items ds rest)
