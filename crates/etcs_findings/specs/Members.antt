-- Lists and members of objects in JSON. Each definition of a member puts it in front of the members that follow, so
-- the order here is the order of the text.
use Rattle.std.specs.Prelude.{ℕ, List, [], ◌∷◌, Option, Some, None, decimal}
use Rattle.json.specs.Json.{Json, Items, Members, item, member, no_items, number, string}

-- a whole number
abbrev pub whole : ℕ → Json
whole n = number (decimal n)

-- a number at this key
abbrev pub with_number : List ℕ → ℕ → Members → Members
with_number name n rest = member name (whole n) rest

-- a number at this key, or no member
abbrev pub with_option : List ℕ → Option ℕ → Members → Members
with_option name None rest = rest
with_option name (Some n) rest = with_number name n rest

-- a text at this key
abbrev pub with_text : List ℕ → List ℕ → Members → Members
with_text name text rest = member name (string text) rest

-- the items of a list
abbrev pub json_items : {X : Type 0} → (X → Json) → List X → Items
json_items to [] = no_items
json_items to (x ∷ xs) = item (to x) (json_items to xs)
