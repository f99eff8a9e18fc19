-- An object of entries with different keys has each of them, and no other key.
use Rattle.std.specs.Prelude.{◌≡◌, ◌++◌, ℕ, true, false, List, [], ◌∷◌, Option, Some, None, refl}
use Rattle.etcs_schema.specs.Prelude.{◌∙◌, Ordering, Less, Equal, Greater, nat_cmp, bytes_eq, sym, ap, and_parts, and_from, or_parts, or_left, or_right, true≢false, Data, Members, member, no_members, object, put, get_member}
use Rattle.std.proofs.lemmas.Bool.{false_from_ne_true, not-true}
use Rattle.std.proofs.lemmas.Slice.Eq.{bytes_eq-Decides}
use Rattle.std.specs.Cmp.Lexicographic.{slice_cmp}
use Rattle.std.specs.Ordering.{match_ordering}
use Rattle.serde_json.proofs.Views.{get_member-put, get_member-put_other}
use Rattle.etcs_schema.specs.Entries.{Entry, entry_keys, entries_object, put_or, with_entries, is_known, are_apart, are_known, HasEntries}

-- ---- texts

differ : (k l : List ℕ) → bytes_eq k l ≡ false → k ≡ l → ⊥
differ k l other is = true≢false (sym ((bytes_eq-Decides k l).1 is) ∙ other)

pub apart_sym : (xs ys : List ℕ) → bytes_eq xs ys ≡ false → bytes_eq ys xs ≡ false
apart_sym xs ys other = false_from_ne_true _ (λ is. differ xs ys other (sym ((bytes_eq-Decides ys xs).0 is)))

-- ---- each entry is found

here_after : (k : List ℕ) (o : Option Data) (ms : Members) → get_member k ms ≡ None
    → get_member k (put_or k o ms) ≡ o
here_after k None ms none = none
here_after k (Some d) ms none = get_member-put k d ms

other_after : (q k : List ℕ) (o : Option Data) (ms : Members) → bytes_eq q k ≡ false
    → get_member q (put_or k o ms) ≡ get_member q ms
other_after q k None ms other = refl
other_after q k (Some d) ms other = get_member-put_other q k d ms (differ q k other)

onto_other : (k : List ℕ) (ms : Members) (es : List Entry) → is_known k (entry_keys es) ≡ false
    → get_member k (with_entries ms es) ≡ get_member k ms
onto_other k ms [] none = refl
onto_other k ms (e ∷ es) none =
    let both = or_parts _ _ none in
    onto_other k (put_or e.0 e.1 ms) es both.1 ∙ other_after k e.0 e.1 ms both.0

-- the object has none of the keys
AreFree : List Entry → Members → Type 0
AreFree [] ms = Unit {0}
AreFree (e ∷ es) ms = (get_member e.0 ms ≡ None) × AreFree es ms

free_at_first : (es : List Entry) → AreFree es no_members
unfolding AreFree
free_at_first [] = tt
free_at_first (e ∷ es) = (refl, free_at_first es)

still_free : (e : Entry) (es : List Entry) (ms : Members)
    → is_known e.0 (entry_keys es) ≡ false → AreFree es ms
    → AreFree es (put_or e.0 e.1 ms)
unfolding AreFree
still_free e [] ms none free = tt
still_free e (f ∷ fs) ms none free =
    let both = or_parts _ _ none in
    (other_after f.0 e.0 e.1 ms (apart_sym e.0 f.0 both.0) ∙ free.0, still_free e fs ms both.1 free.1)

onto_holds : (ms : Members) (es : List Entry) → are_apart (entry_keys es) ≡ true → AreFree es ms
    → HasEntries es (object (with_entries ms es))
unfolding AreFree
onto_holds ms [] apart free = tt
onto_holds ms (e ∷ es) apart free =
    let both = and_parts _ _ apart in
    let none = not-true _ both.0 in (
      onto_other e.0 (put_or e.0 e.1 ms) es none
          ∙ here_after e.0 e.1 ms free.0,
      onto_holds (put_or e.0 e.1 ms) es both.1 (still_free e es ms none free.1),
    )

-- at each key, the value that it was given
pub object_has_entries : (es : List Entry)
    → are_apart (entry_keys es) ≡ true → HasEntries es (entries_object es)
object_has_entries es apart = onto_holds no_members es apart (free_at_first es)

-- entries of two parts
pub holds_parts : (es fs : List Entry) (d : Data)
    → HasEntries (es ++ fs) d → HasEntries es d × HasEntries fs d
holds_parts [] fs d h = (tt, h)
holds_parts (e ∷ es) fs d h = let rest = holds_parts es fs d h.1 in ((h.0, rest.0), rest.1)

pub entry_keys-append : (es fs : List Entry) → entry_keys (es ++ fs) ≡ entry_keys es ++ entry_keys fs
entry_keys-append [] fs = refl
entry_keys-append (e ∷ es) fs = ap (λ ks. e.0 ∷ ks) (entry_keys-append es fs)

-- ---- and no other key

AreAmong : List (List ℕ) → List Entry → Type 0
AreAmong keys [] = Unit {0}
AreAmong keys (e ∷ es) = (is_known e.0 keys ≡ true) × AreAmong keys es

among_more : (k : List ℕ) (keys : List (List ℕ)) (es : List Entry) → AreAmong keys es → AreAmong (k ∷ keys) es
unfolding AreAmong
among_more k keys [] h = tt
among_more k keys (e ∷ es) h = (or_right _ _ h.0, among_more k keys es h.1)

among_own : (es : List Entry) → AreAmong (entry_keys es) es
unfolding AreAmong
among_own [] = tt
among_own (e ∷ es) =
    (or_left _ _ ((bytes_eq-Decides e.0 e.0).1 refl), among_more e.0 (entry_keys es) es (among_own es))

put_known_at : (o : Ordering) (keys : List (List ℕ)) (k l : List ℕ) (d e : Data) (ms : Members)
    → is_known k keys ≡ true → are_known keys (member l e ms) ≡ true
    → are_known keys (put k d ms) ≡ true
    → are_known keys
    (match_ordering o (member k d (member l e ms)) (member l d ms) (member l e (put k d ms))) ≡ true
put_known_at Less keys k l d e ms is known later = and_from _ _ is known
put_known_at Equal keys k l d e ms is known later = known
put_known_at Greater keys k l d e ms is known later =
    let both = and_parts _ _ known in and_from _ _ both.0 later

put_known : (keys : List (List ℕ)) (k : List ℕ) (d : Data) (ms : Members) → is_known k keys ≡ true
    → are_known keys ms ≡ true → are_known keys (put k d ms) ≡ true
put_known keys k d no_members is known = and_from _ _ is refl
put_known keys k d (member l e ms) is known =
    let both = and_parts (is_known l keys) (are_known keys ms) known in
    put_known_at (slice_cmp nat_cmp k l) keys k l d e ms is known (put_known keys k d ms is both.1)

put_or_known : (keys : List (List ℕ)) (k : List ℕ) (o : Option Data) (ms : Members) → is_known k keys ≡ true
    → are_known keys ms ≡ true → are_known keys (put_or k o ms) ≡ true
put_or_known keys k None ms is known = known
put_or_known keys k (Some d) ms is known = put_known keys k d ms is known

onto_known : (keys : List (List ℕ)) (ms : Members) (es : List Entry) → are_known keys ms ≡ true
    → AreAmong keys es → are_known keys (with_entries ms es) ≡ true
unfolding AreAmong
onto_known keys ms [] known h = known
onto_known keys ms (e ∷ es) known h =
    onto_known keys (put_or e.0 e.1 ms) es (put_or_known keys e.0 e.1 ms h.0 known) h.1

-- an object has only the keys of its entries
pub object_known : (es : List Entry) → are_known (entry_keys es) (with_entries no_members es) ≡ true
object_known es = onto_known (entry_keys es) no_members es refl (among_own es)
