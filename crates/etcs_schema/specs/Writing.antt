-- Writing a value: the tokens of its text are appended. An object's members are written in the byte order of
-- their keys.
use Rattle.std.specs.Prelude.{◌≡◌, ◌++◌, ℕ, List, [], ◌∷◌, map, Option, Some, None}
use Rattle.etcs_schema.specs.Prelude.{Data}
use Rattle.std.specs.Cmp.Lexicographic.{slice_cmp}
use Rattle.std.specs.Ordering.{nat_cmp, match_ordering}
use Rattle.json.specs.Token.{Token, key}
use Rattle.json.specs.Tree.{json_tokens}
use Rattle.json.specs.Written.{Written}
use Rattle.serde_json.specs.Written.{outline}
use Rattle.etcs_schema.specs.Entries.{Entry, entry_keys}

-- an entry inserted in the byte order of the keys
abbrev pub insert : Entry → List Entry → List Entry
insert e [] = e ∷ []
insert e (f ∷ fs) = match_ordering (slice_cmp nat_cmp e.0 f.0) (e ∷ f ∷ fs) (e ∷ f ∷ fs) (f ∷ insert e fs)

-- sorted entries, and more entries inserted one after the other
abbrev pub insert_all : List Entry → List Entry → List Entry
insert_all done [] = done
insert_all done (e ∷ es) = insert_all (insert e done) es

abbrev pub sorted : List Entry → List Entry
sorted es = insert_all [] es

abbrev pub sorted_keys : List (List ℕ) → List (List ℕ)
sorted_keys ks = entry_keys (sorted (map (λ k. (k, None)) ks))

-- the tokens of a value's text
abbrev pub data_tokens : Data → List Token
data_tokens d = json_tokens (outline d)

-- a key and then its value, or nothing for an omitted key
abbrev pub entry_tokens : List ℕ → Option Data → List Token
entry_tokens k None = []
entry_tokens k (Some d) = key k ∷ data_tokens d

abbrev pub entries_tokens : List Entry → List Token
entries_tokens [] = []
entries_tokens (e ∷ es) = entry_tokens e.0 e.1 ++ entries_tokens es

-- The tokens of these members were appended. It is unfolded only where members are written, so that a search
-- compares members and not tokens.
unfoldable pub AddsMembers : {M : Type 0} → (List Token → M → M → Type 0) → List Entry → M → M → Type 0
AddsMembers adds es old new = adds (entries_tokens es) old new

-- these tokens were appended
pub record Adds (tokens : List Token) (old new : Written) : Type 0 where
  pub before : new.before ≡ old.before
  pub added : new.tokens ≡ old.tokens ++ tokens

-- each item's tokens, without the brackets of the list
abbrev pub each_tokens : {X : Type 0} → (X → Data) → List X → List Token
each_tokens to [] = []
each_tokens to (x ∷ xs) = data_tokens (to x) ++ each_tokens to xs
