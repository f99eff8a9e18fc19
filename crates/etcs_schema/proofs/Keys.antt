-- The keys of an object, and the keys that it may have.
use Rattle.std.proofs.Common.{◌≡◌, ◌∙◌, ◌&&◌, ◌||◌, ℕ, List, [], ◌∷◌, Option, Some, None, Result, Ok, Err, Bor, refl, ap, map, subst, String, Global, string_bytes}
use Rattle.std.proofs.Math.Bool.{or-false}
use Rattle.std.specs.Prelude.{if◌then◌else◌}
use Rattle.std.specs.List.{list_all, list_any}
use Rattle.std.specs.Map.{keys_of}
use Rattle.std.specs.Str.{bytes_eq}
use Rattle.serde_json.specs.declared.value.Value.{Value}
use Rattle.serde_json.specs.View.{members_view}
use Rattle.serde_json.specs.Data.{Data, Members, member, no_members}
use Rattle.serde_json.specs.Find.{as_object}
use Rattle.etcs_schema.specs.Entries.{are_known, is_known, entry_keys}
use Rattle.etcs_schema.specs.Fault.{Returns, Unknown, here}
use Rattle.etcs_schema.specs.Reading.{known_or, only_keys}
use Rattle.etcs_schema.specs.Writing.{sorted_keys}
use Rattle.etcs_schema.specs.declared.error.FormError.{FormError}
use Rattle.etcs_schema.specs.lemmas.SortedLemmas.{among_onto}

pub any_key : (name : List ℕ) (keys : List (Bor (List ℕ))) → list_any (λ l. bytes_eq name l.now) keys ≡ is_known name (map (λ l. l.now) keys)
any_key name [] = refl
any_key name (key ∷ keys) = ap (λ b. bytes_eq name key.now || b) (any_key name keys)

pub are_known-entries : (keys : List (List ℕ)) (es : List (String Global × Value)) → list_all (λ k. is_known (string_bytes k) keys) (keys_of es) ≡ are_known keys (members_view es)
are_known-entries keys [] = refl
are_known-entries keys (e ∷ es) = ap (λ b. is_known (string_bytes e.0) keys && b) (are_known-entries keys es)

-- ---- keys in byte order are the same keys

among_alone : (k : List ℕ) (ks : List (List ℕ)) → is_known k (entry_keys (map (λ l. (l, None)) ks)) ≡ is_known k ks
among_alone k [] = refl
among_alone k (l ∷ ls) = ap (λ b. bytes_eq k l || b) (among_alone k ls)

among_sorted : (k : List ℕ) (ks : List (List ℕ)) → is_known k (sorted_keys ks) ≡ is_known k ks
among_sorted k ks = among_onto k [] (map (λ l. (l, None)) ks) ∙ or-false _ ∙ among_alone k ks

known_sorted : (ks : List (List ℕ)) (ms : Members) → are_known (sorted_keys ks) ms ≡ are_known ks ms
known_sorted ks no_members = refl
known_sorted ks (member k d ms) = ap (λ b. b && are_known (sorted_keys ks) ms) (among_sorted k ks) ∙ ap (λ b. is_known k ks && b) (known_sorted ks ms)

known_or_sorted : (ks : List (List ℕ)) (o : Option Members) → known_or (sorted_keys ks) o ≡ known_or ks o
known_or_sorted ks None = refl
known_or_sorted ks (Some ms) = ap (λ b. if b then Ok tt else Err (here Unknown)) (known_sorted ks ms)

pub object_sorted : (ks : List (List ℕ)) (d : Data) → only_keys (sorted_keys ks) d ≡ only_keys ks d
unfolding only_keys
object_sorted ks d = known_or_sorted ks (as_object d)

-- an object is known by keys in byte order
pub sorted_gives : (ks ls : List (List ℕ)) (d : Data) (result : Result (Unit {0}) FormError) → Returns (λ u. u) result (only_keys ls d) → ls ≡ sorted_keys ks → Returns (λ u. u) result (only_keys ks d)
sorted_gives ks ls d result gives is = subst (λ r. Returns (λ u. u) result r) (ap (λ l. only_keys l d) is ∙ object_sorted ks d) gives
