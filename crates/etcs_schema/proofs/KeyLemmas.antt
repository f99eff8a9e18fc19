-- The keys of an object are known if each key of its text is, including keys that come twice.
use Rattle.std.proofs.Common.{◌≡◌, ◌∙◌, ◌&&◌, ℕ, Bool, Global, List, [], ◌∷◌, Ordering, Less, Equal, Greater, nat_cmp, is_eq, ap, sym, refl, arith}
use Rattle.std.proofs.Math.Bool.{and-true, and_self_left}
use Rattle.std.proofs.lemmas.Bool.Decides.{nat_tests}
use Rattle.std.proofs.lemmas.Map.Text.{is_eq-slice_cmp}
use Rattle.std.proofs.lemmas.Slice.Eq.{bytes_eq-Decides}
use Rattle.std.specs.Borrow.{Bor}
use Rattle.std.specs.Cmp.Lexicographic.{slice_cmp}
use Rattle.std.specs.List.{list_all}
use Rattle.std.specs.Ordering.{match_ordering}
use Rattle.json.specs.Value.{members_view, value_view}
use Rattle.json.specs.declared.value.Value.{Value}
use Rattle.serde_json.specs.Data.{Data, Members, member, no_members, put}
use Rattle.etcs_schema.specs.Entries.{are_known, is_known}
use Rattle.etcs_schema.specs.json_value.Texts.{json_data, members_data}

-- ---- one member more

swapped : (a b c : Bool) → a && (b && c) ≡ b && (a && c)
swapped a b c = grind (arith, nat_tests)

put_known_at : (o : Ordering) (keys : List (List ℕ)) (k l : List ℕ) (d e : Data) (ms : Members) → slice_cmp nat_cmp k l ≡ o → are_known keys (put k d ms) ≡ is_known k keys && are_known keys ms
    → are_known keys (match_ordering o (member k d (member l e ms)) (member l d ms) (member l e (put k d ms))) ≡ is_known k keys && (is_known l keys && are_known keys ms)
put_known_at Less keys k l d e ms is later = refl
put_known_at Equal keys k l d e ms is later =
    let same : k ≡ l = (bytes_eq-Decides k l).0 (sym (is_eq-slice_cmp k l) ∙ ap is_eq is) in
    sym (and_self_left (is_known l keys) (are_known keys ms)) ∙ ap (λ x. is_known x keys && (is_known l keys && are_known keys ms)) (sym same)
put_known_at Greater keys k l d e ms is later = ap (λ b. is_known l keys && b) later ∙ swapped (is_known l keys) (is_known k keys) (are_known keys ms)

put_known : (keys : List (List ℕ)) (k : List ℕ) (d : Data) (ms : Members) → are_known keys (put k d ms) ≡ is_known k keys && are_known keys ms
put_known keys k d no_members = refl
put_known keys k d (member l e ms) = put_known_at (slice_cmp nat_cmp k l) keys k l d e ms refl (put_known keys k d ms)

-- ---- all members

moved : (a b c : Bool) → a && (b && c) ≡ (b && a) && c
moved a b c = grind (arith, nat_tests)

abbrev pub all_known : List (List ℕ) → List (Bor (List ℕ) × Value Global) → Bool
all_known keys ms = list_all (λ m. is_known m.0.now keys) ms

members_known : (keys : List (List ℕ)) (ms : List (Bor (List ℕ) × Value Global)) (old : Members) → are_known keys (members_data (members_view ms) old) ≡ all_known keys ms && are_known keys old
members_known keys [] old = refl
members_known keys (m ∷ ms) old =
    let d = json_data (value_view m.1) in
    members_known keys ms (put m.0.now d old) ∙ ap (λ b. all_known keys ms && b) (put_known keys m.0.now d old) ∙ moved (all_known keys ms) (is_known m.0.now keys) (are_known keys old)

pub keys_known : (keys : List (List ℕ)) (ms : List (Bor (List ℕ) × Value Global)) → all_known keys ms ≡ are_known keys (members_data (members_view ms) no_members)
keys_known keys ms = sym (members_known keys ms no_members ∙ and-true (all_known keys ms))
