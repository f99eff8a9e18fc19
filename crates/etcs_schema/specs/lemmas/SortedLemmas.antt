-- The object of some entries has its members in the byte order of their keys.
use Rattle.std.proofs.Common.{◌≡◌, ◌∙◌, ◌++◌, ◌||◌, ℕ, Bool, true, false, List, [], ◌∷◌, Option, Some, None, Ordering, Less, Equal, Greater, is_eq, nat_cmp, bytes_eq, refl, sym, ap, subst, append_assoc, append-nil, arith}
use Rattle.std.proofs.Math.Bool.{or_assoc}
use Rattle.std.proofs.lemmas.Bool.{and_parts, not-true, or_parts, or_from, true≢false}
use Rattle.std.proofs.lemmas.Bool.Decides.{nat_tests}
use Rattle.std.proofs.lemmas.Cmp.{nat_list_cmp_total}
use Rattle.std.proofs.lemmas.Map.Text.{is_eq-slice_cmp}
use Rattle.std.specs.Cmp.Lexicographic.{slice_cmp}
use Rattle.std.specs.List.{AllByRecursion}
use Rattle.std.specs.Ordering.{match_ordering, ordering_reverse}
use Rattle.serde_json.specs.Data.{Data, Members, member, no_members, put}
use Rattle.etcs_schema.specs.lemmas.EntryLemmas.{apart_sym}
use Rattle.etcs_schema.specs.Entries.{Entry, entry_keys, put_or, with_entries, is_known, are_apart}
use Rattle.etcs_schema.specs.Writing.{insert, insert_all, sorted}

-- the keys that are there, in this order
abbrev pub member_or : List ℕ → Option Data → Members → Members
member_or k None ms = ms
member_or k (Some d) ms = member k d ms

abbrev pub members_of : List Entry → Members
members_of [] = no_members
members_of (e ∷ es) = member_or e.0 e.1 (members_of es)

or_swapped : (a b c : Bool) → (a || (b || c)) ≡ (b || (a || c))
or_swapped a b c = grind (arith, nat_tests)

among_inserted_at : (o : Ordering) (k : List ℕ) (e f : Entry) (fs : List Entry) → is_known k (entry_keys (insert e fs)) ≡ (bytes_eq k e.0 || is_known k (entry_keys fs))
    → is_known k (entry_keys (match_ordering o (e ∷ f ∷ fs) (e ∷ f ∷ fs) (f ∷ insert e fs))) ≡ (bytes_eq k e.0 || (bytes_eq k f.0 || is_known k (entry_keys fs)))
among_inserted_at Less k e f fs later = refl
among_inserted_at Equal k e f fs later = refl
among_inserted_at Greater k e f fs later = ap (λ b. bytes_eq k f.0 || b) later ∙ or_swapped (bytes_eq k f.0) (bytes_eq k e.0) (is_known k (entry_keys fs))

among_inserted : (k : List ℕ) (e : Entry) (es : List Entry) → is_known k (entry_keys (insert e es)) ≡ (bytes_eq k e.0 || is_known k (entry_keys es))
among_inserted k e [] = refl
among_inserted k e (f ∷ fs) = among_inserted_at _ k e f fs (among_inserted k e fs)

-- the keys stay the same
pub among_onto : (k : List ℕ) (done es : List Entry) → is_known k (entry_keys (insert_all done es)) ≡ (is_known k (entry_keys es) || is_known k (entry_keys done))
among_onto k done [] = refl
among_onto k done (e ∷ es) =
    among_onto k (insert e done) es ∙ ap (λ b. is_known k (entry_keys es) || b) (among_inserted k e done)
    ∙ or_swapped (is_known k (entry_keys es)) (bytes_eq k e.0) (is_known k (entry_keys done)) ∙ sym (or_assoc (bytes_eq k e.0) (is_known k (entry_keys es)) (is_known k (entry_keys done)))

not_inserted : (k : List ℕ) (e : Entry) (es : List Entry) → bytes_eq k e.0 ≡ false → is_known k (entry_keys es) ≡ false → is_known k (entry_keys (insert e es)) ≡ false
not_inserted k e es other none = among_inserted k e es ∙ or_from _ _ other none

-- the keys of the first are none of the second's
abbrev AreNew : List Entry → List Entry → Type 0
AreNew es done = AllByRecursion (λ e. is_known e.0 (entry_keys done) ≡ false) es

new_at_first : (es : List Entry) → AreNew es []
new_at_first [] = tt
new_at_first (e ∷ es) = (refl, new_at_first es)

still_new : (e : Entry) (es done : List Entry) → is_known e.0 (entry_keys es) ≡ false → AreNew es done → AreNew es (insert e done)
still_new e [] done none new = tt
still_new e (f ∷ fs) done none new =
    let both = or_parts _ _ none in
    (not_inserted f.0 e done (apart_sym e.0 f.0 both.0) new.0, still_new e fs done both.1 new.1)

-- what holds for an entry and for each of others, holds for each of them in any order

all_inserted_at : (P : Entry → Type 0) (o : Ordering) (e f : Entry) (fs : List Entry) → P e → AllByRecursion P (f ∷ fs) → AllByRecursion P (insert e fs)
    → AllByRecursion P (match_ordering o (e ∷ f ∷ fs) (e ∷ f ∷ fs) (f ∷ insert e fs))
all_inserted_at P Less e f fs one others later = (one, others)
all_inserted_at P Equal e f fs one others later = (one, others)
all_inserted_at P Greater e f fs one others later = (others.0, later)

all_inserted : (P : Entry → Type 0) (e : Entry) (es : List Entry) → P e → AllByRecursion P es → AllByRecursion P (insert e es)
all_inserted P e [] one others = (one, tt)
all_inserted P e (f ∷ fs) one others = all_inserted_at P _ e f fs one others (all_inserted P e fs one others.1)

pub all_onto : (P : Entry → Type 0) (done es : List Entry) → AllByRecursion P done → AllByRecursion P es → AllByRecursion P (insert_all done es)
all_onto P done [] before more = before
all_onto P done (e ∷ es) before more = all_onto P (insert e done) es (all_inserted P e done more.0 before) more.1

abbrev IsAbove : List ℕ → List Entry → Type 0
IsAbove k es = AllByRecursion (λ e. slice_cmp nat_cmp k e.0 ≡ Less) es

abbrev IsAscending : List Entry → Type 0
IsAscending [] = Unit {0}
IsAscending (e ∷ es) = IsAbove e.0 es × IsAscending es

above_all : (k l : List ℕ) (es : List Entry) → slice_cmp nat_cmp k l ≡ Less → IsAbove l es → IsAbove k es
above_all k l [] less above = tt
above_all k l (e ∷ es) less above = (nat_list_cmp_total.trans k l e.0 less above.0, above_all k l es less above.1)

put_first_or : (k l : List ℕ) (d : Data) (o : Option Data) (ms : Members) → slice_cmp nat_cmp k l ≡ Less → put k d ms ≡ member k d ms → put k d (member_or l o ms) ≡ member k d (member_or l o ms)
put_first_or k l d None ms less rest = rest
put_first_or k l d (Some e) ms less rest = rw less refl

put_first : (k : List ℕ) (d : Data) (es : List Entry) → IsAbove k es → put k d (members_of es) ≡ member k d (members_of es)
put_first k d [] above = refl
put_first k d (e ∷ es) above = put_first_or k e.0 d e.1 (members_of es) above.0 (put_first k d es above.1)

put_later : (k l : List ℕ) (d : Data) (o : Option Data) (ms ns : Members) → slice_cmp nat_cmp k l ≡ Greater → put k d ms ≡ ns → put k d (member_or l o ms) ≡ member_or l o ns
put_later k l d None ms ns greater rest = rest
put_later k l d (Some e) ms ns greater rest = rw greater (ap (member l e) rest)

not_equal : (k l : List ℕ) → bytes_eq k l ≡ false → slice_cmp nat_cmp k l ≡ Equal → ⊥
not_equal k l other equal = true≢false (sym (ap is_eq equal) ∙ is_eq-slice_cmp k l ∙ other)

put_some_at : (o : Ordering) (k : List ℕ) (d : Data) (f : Entry) (fs : List Entry) → slice_cmp nat_cmp k f.0 ≡ o
    → IsAbove f.0 fs → bytes_eq k f.0 ≡ false → put k d (members_of fs) ≡ members_of (insert (k, Some d) fs)
    → put k d (members_of (f ∷ fs)) ≡ members_of (match_ordering o ((k, Some d) ∷ f ∷ fs) ((k, Some d) ∷ f ∷ fs) (f ∷ insert (k, Some d) fs))
put_some_at Less k d f fs is above other later = put_first k d (f ∷ fs) (is, above_all k f.0 fs is above)
put_some_at Equal k d f fs is above other later = absurd (not_equal k f.0 other is)
put_some_at Greater k d f fs is above other later = put_later k f.0 d f.1 (members_of fs) _ is later

put_some : (k : List ℕ) (d : Data) (es : List Entry) → IsAscending es → is_known k (entry_keys es) ≡ false → put k d (members_of es) ≡ members_of (insert (k, Some d) es)
put_some k d [] up none = refl
put_some k d (f ∷ fs) up none =
    let both = or_parts _ _ none in
    put_some_at _ k d f fs refl up.0 both.0 (put_some k d fs up.1 both.1)

insert_none_at : (o : Ordering) (k : List ℕ) (f : Entry) (fs : List Entry) → members_of fs ≡ members_of (insert (k, None) fs)
    → members_of (f ∷ fs) ≡ members_of (match_ordering o ((k, None) ∷ f ∷ fs) ((k, None) ∷ f ∷ fs) (f ∷ insert (k, None) fs))
insert_none_at Less k f fs later = refl
insert_none_at Equal k f fs later = refl
insert_none_at Greater k f fs later = ap (member_or f.0 f.1) later

insert_none : (k : List ℕ) (es : List Entry) → members_of es ≡ members_of (insert (k, None) es)
insert_none k [] = refl
insert_none k (f ∷ fs) = insert_none_at _ k f fs (insert_none k fs)

put_insert : (k : List ℕ) (o : Option Data) (es : List Entry) → IsAscending es → is_known k (entry_keys es) ≡ false → put_or k o (members_of es) ≡ members_of (insert (k, o) es)
put_insert k None es up none = insert_none k es
put_insert k (Some d) es up none = put_some k d es up none

ascending_insert_at : (o : Ordering) (e f : Entry) (fs : List Entry) → slice_cmp nat_cmp e.0 f.0 ≡ o → bytes_eq e.0 f.0 ≡ false → IsAbove f.0 fs → IsAscending fs → IsAscending (insert e fs)
    → IsAscending (match_ordering o (e ∷ f ∷ fs) (e ∷ f ∷ fs) (f ∷ insert e fs))
ascending_insert_at Less e f fs is other above up later = ((is, above_all e.0 f.0 fs is above), (above, up))
ascending_insert_at Equal e f fs is other above up later = absurd (not_equal e.0 f.0 other is)
ascending_insert_at Greater e f fs is other above up later =
    let back : slice_cmp nat_cmp f.0 e.0 ≡ Less = nat_list_cmp_total.antisymm f.0 e.0 ∙ ap ordering_reverse is in
    (all_inserted (λ g. slice_cmp nat_cmp f.0 g.0 ≡ Less) e fs back above, later)

ascending_insert : (e : Entry) (es : List Entry) → IsAscending es → is_known e.0 (entry_keys es) ≡ false → IsAscending (insert e es)
ascending_insert e [] up none = (tt, tt)
ascending_insert e (f ∷ fs) up none =
    let both = or_parts _ _ none in
    ascending_insert_at _ e f fs refl both.0 up.0 up.1 (ascending_insert e fs up.1 both.1)

onto_members : (done es : List Entry) → IsAscending done → are_apart (entry_keys es) ≡ true → AreNew es done
    → (with_entries (members_of done) es ≡ members_of (insert_all done es)) × IsAscending (insert_all done es)
onto_members done [] up apart new = (refl, up)
onto_members done (e ∷ es) up apart new =
    let both = and_parts _ _ apart in
    let rest = onto_members (insert e done) es (ascending_insert e done up new.0) both.1 (still_new e es done (not-true _ both.0) new.1) in
    (ap (λ ms. with_entries ms es) (put_insert e.0 e.1 done up new.0) ∙ rest.0, rest.1)

-- members that are inserted one after the other make one object, in any order
pub made_members : (es : List Entry) → are_apart (entry_keys es) ≡ true → with_entries no_members es ≡ members_of (sorted es)
made_members es apart = (onto_members [] es tt apart (new_at_first es)).0

-- ---- entries that are in order

above_in : (l : List ℕ) (done : List Entry) (f : Entry) (fs : List Entry) → IsAbove l (done ++ f ∷ fs) → slice_cmp nat_cmp l f.0 ≡ Less
above_in l [] f fs above = above.0
above_in l (e ∷ done) f fs above = above_in l done f fs above.1

put_alone : (k : List ℕ) (o : Option Data) → put_or k o no_members ≡ member_or k o no_members
put_alone k None = refl
put_alone k (Some d) = refl

put_last_at : (k : List ℕ) (o : Option Data) (l : List ℕ) (p : Option Data) (ms ns : Members) → slice_cmp nat_cmp l k ≡ Less → put_or k o ms ≡ ns → put_or k o (member_or l p ms) ≡ member_or l p ns
put_last_at k None l p ms ns less rest = ap (member_or l p) rest
put_last_at k (Some d) l p ms ns less rest = put_later k l d p ms ns (nat_list_cmp_total.antisymm k l ∙ ap ordering_reverse less) rest

put_last : (done : List Entry) (f : Entry) (fs : List Entry) → IsAscending (done ++ f ∷ fs) → put_or f.0 f.1 (members_of done) ≡ members_of (done ++ f ∷ [])
put_last [] f fs up = put_alone f.0 f.1
put_last (e ∷ done) f fs up = put_last_at f.0 f.1 e.0 e.1 (members_of done) _ (above_in e.0 done f fs up.0) (put_last done f fs up.1)

onto_last : (done fs : List Entry) → IsAscending (done ++ fs) → with_entries (members_of done) fs ≡ members_of (done ++ fs)
onto_last done [] up = ap members_of (sym (append-nil done))
onto_last done (f ∷ fs) up =
    let same : (done ++ f ∷ []) ++ fs ≡ done ++ f ∷ fs = append_assoc done (f ∷ []) fs in
    ap (λ ms. with_entries ms fs) (put_last done f fs up) ∙ onto_last (done ++ f ∷ []) fs (subst IsAscending (sym same) up) ∙ ap members_of same

-- members that are sorted first make the same object
pub onto_sorted : (es : List Entry) → are_apart (entry_keys es) ≡ true → with_entries no_members (sorted es) ≡ with_entries no_members es
onto_sorted es apart = onto_last [] (sorted es) (onto_members [] es tt apart (new_at_first es)).1 ∙ sym (made_members es apart)
