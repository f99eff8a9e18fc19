-- The groups of a table have one to eight balises in each aspect, as many as in the first: else they have a fault.
use Rattle.std.proofs.Common.{◌≡◌, ◌∙◌, sym, ap, refl, subst, ℕ, ◌<◌, ◌≤◌, ◌==◌, Bool, true, false, not, ◌||◌, ◌&&◌, inl, inr, List, [], ◌∷◌, ◌++◌, length, map, arith, eq-eqb, Option, None, Some, Result, Ok, Err, append_assoc}
use Rattle.std.proofs.lemmas.Bool.{cases_Bool}
use Rattle.std.proofs.lemmas.List.{length-map}
use Rattle.std.proofs.lemmas.List.Sums.{sum_by-cons}
use Rattle.std.proofs.lemmas.Option.{slice_get_cases}
use Rattle.std.proofs.lemmas.List.Elements.{filter-append}
use Rattle.std.specs.List.{filter, find, list_all, list_any, sum_by}
use Rattle.std.specs.Prelude.{slice_get, if◌then◌else◌}
use Rattle.etcs_table.specs.Entries.{Entry}
use Rattle.etcs_table.specs.Faults.{or_else, or_fault}
use Rattle.etcs_table.specs.Groups.{Group, aspect_fault, aspects_of, entry_fault, fault_at, first_names, first_of, first_repeated, group_fault, group_names, group_of, groups_of_entries, has_aspect, in_order, is_every, is_numbered, ninth_of, of_aspect, of_group, one_at_least, place_fault, rows_of_aspects, uneven_fault}
use Rattle.etcs_table.specs.Text.{same_text}
use Rattle.etcs_table.specs.declared.error.TableFault.{TableFault}
use Rattle.etcs_table.specs.declared.error.TableFault.TheVariants.{Ninth, Uneven}
use Rattle.etcs_table.proofs.CountLemmas.{order-count}
use Rattle.etcs_table.proofs.NameLemmas.{itself, or-true}
use Rattle.etcs_table_check.specs.Shape.{AreShaped, IsShaped, has_size, size}

-- ---- lists

any-append : {X : Type 0} (p : X → Bool) (xs : List X) (y : X) (ys : List X) → p y ≡ true → list_any p (xs ++ y ∷ ys) ≡ true
any-append p [] y ys e = rw e refl
any-append p (x ∷ xs) y ys e = ap (λ b. p x || b) (any-append p xs y ys e) ∙ or-true (p x)

all-filter : {X : Type 0} (t p : X → Bool) (xs : List X) → list_all t xs ≡ true → list_all t (filter p xs) ≡ true
all-filter t p [] e = refl
all-filter t p (x ∷ xs) e = elim (cases_Bool (t x)) [
  | inl y ↦
      let more : list_all t (filter p xs) ≡ true = all-filter t p xs (rw y at e) in
      elim (cases_Bool (p x)) [
        | inl z ↦ rw (z, y) more
        | inr z ↦ rw z more
      ]
  | inr n ↦ let no : false ≡ true = rw n at e in cc
]

all-first : (t : List ℕ → Bool) (names : List (List ℕ)) → list_all t names ≡ true → list_all t (first_names names) ≡ true
unfolding first_names
all-first t [] e = refl
all-first t (n ∷ names) e = elim (cases_Bool (t n)) [
  | inl y ↦ let more : list_all t names ≡ true = rw y at e in
      rw y (all-filter t (λ other. not (same_text other n)) (first_names names) (all-first t names more))
  | inr z ↦ let no : false ≡ true = rw z at e in cc
]

none-found : {X : Type 0} (p : X → Bool) (xs : List X) → find p xs ≡ None → list_any p xs ≡ true → ⊥
none-found p [] e a = cc
none-found p (x ∷ xs) e a = elim (cases_Bool (p x)) [
  | inl y ↦ let no : Some x ≡ None = rw y at e in cc
  | inr n ↦ none-found p xs (rw n at e) (rw n at a)
]

some-there : {X : Type 0} (p : X → Bool) (xs : List X) → list_any p xs ≡ true → 0 < length xs
some-there p [] a = cc
some-there p (x ∷ xs) a = omega arith

-- ---- each name has a row

abbrev own : Entry → Bool
own e = not (is_every e)

-- an aspect of these rows has a row of its own
abbrev has_own : List Entry → List ℕ → Bool
has_own entries name = list_any own (of_aspect entries name)

own-there : (done : List Entry) (e : Entry) (rest : List Entry) → own e ≡ true → has_own (done ++ e ∷ rest) e.aspect ≡ true
own-there done e rest o =
    let p = λ (f : Entry). same_text f.aspect e.aspect || is_every f in
    rw (filter-append p done (e ∷ rest), itself e.aspect) (any-append own (filter p done) e (filter p rest) o)

names-own : (done rest : List Entry) → list_all (has_own (done ++ rest)) (map (λ e. e.aspect) (filter own rest)) ≡ true
names-own done [] = refl
names-own done (e ∷ rest) =
    let same : (done ++ e ∷ []) ++ rest ≡ done ++ e ∷ rest = append_assoc done (e ∷ []) rest in
    let more : list_all (has_own (done ++ e ∷ rest)) (map (λ e. e.aspect) (filter own rest)) ≡ true = subst (λ l. list_all (has_own l) (map (λ e. e.aspect) (filter own rest)) ≡ true) same (names-own (done ++ e ∷ []) rest) in
    elim (cases_Bool (own e)) [
      | inl o ↦ rw (o, own-there done e rest o) more
      | inr o ↦ rw o more
    ]

own-names : (entries : List Entry) → list_all (has_own entries) (first_names (map (λ e. e.aspect) (filter own entries))) ≡ true
own-names entries = all-first (has_own entries) (map (λ e. e.aspect) (filter own entries)) (names-own [] entries)

abbrev any_row : Entry → Bool
any_row e = true

abbrev has_row : List Entry → List ℕ → Bool
has_row entries name = list_any any_row (of_group entries name)

row-there : (done : List Entry) (e : Entry) (rest : List Entry) → has_row (done ++ e ∷ rest) e.group ≡ true
row-there done e rest =
    let p = λ (f : Entry). same_text f.group e.group in
    rw (filter-append p done (e ∷ rest), itself e.group) (any-append any_row (filter p done) e (filter p rest) refl)

names-rows : (done rest : List Entry) → list_all (has_row (done ++ rest)) (map (λ e. e.group) rest) ≡ true
names-rows done [] = refl
names-rows done (e ∷ rest) =
    let same : (done ++ e ∷ []) ++ rest ≡ done ++ e ∷ rest = append_assoc done (e ∷ []) rest in
    rw (row-there done e rest) (subst (λ l. list_all (has_row l) (map (λ e. e.group) rest) ≡ true) same (names-rows (done ++ e ∷ []) rest))

row-names : (entries : List Entry) → list_all (has_row entries) (group_names entries) ≡ true
row-names entries = all-first (has_row entries) (map (λ e. e.group) entries) (names-rows [] entries)

-- ---- what no fault says of a group

pub and-true : (a b : Bool) → (a && b) ≡ true → (a ≡ true) × (b ≡ true)
and-true true b e = (refl, e)
and-true false b e = absurd (cc)

or-none : (a b : Option TableFault) → or_else a b ≡ None → (a ≡ None) × (b ≡ None)
or-none None b e = (refl, e)
or-none (Some f) b e = absurd (cc)

no-fault : (fault : ℕ → TableFault) (r : Option Entry) → fault_at fault r ≡ None → r ≡ None
no-fault fault None e = refl
no-fault fault (Some x) e = absurd (cc)

size-is : (same : Bool) (balises : List Entry) → list_any own balises ≡ true → (if same then None else fault_at Uneven (find own balises)) ≡ None → same ≡ true
size-is true balises o none = refl
size-is false balises o none = absurd (none-found own balises (no-fault Uneven (find own balises) none) o)

all-sized : (n : ℕ) (entries : List Entry) (names : List (List ℕ)) → list_all (has_own entries) names ≡ true → first_of (uneven_fault n) (map (of_aspect entries) names) ≡ None → list_all (has_size n) (map (of_aspect entries) names) ≡ true
unfolding first_of
all-sized n entries [] owns none = refl
all-sized n entries (name ∷ names) owns none =
    let balises = of_aspect entries name in
    let o = and-true (has_own entries name) (list_all (has_own entries) names) owns in
    let p = or-none (uneven_fault n balises) (first_of (uneven_fault n) (map (of_aspect entries) names)) none in
    let is : has_size n balises ≡ true = size-is (length balises == n) balises o.0 p.0 in
    rw is (all-sized n entries names o.1 p.1)

at-most : (xs : List Entry) → slice_get xs 8 ≡ None → length xs ≤ 8
at-most xs none = elim (slice_get_cases xs 8).1 [
  | inl there ↦ let no : Some there.0 ≡ None = sym there.2 ∙ none in absurd (cc)
  | inr past ↦ past.0
]

few-of : (balises : List Entry) → aspect_fault balises ≡ None → length balises ≤ 8
few-of balises none = at-most balises (no-fault Ninth (slice_get balises 8) (or-none (first_repeated [] balises) (ninth_of balises) none).1)

-- without a row of its own an aspect has all rows
first-row : (entries : List Entry) → 0 < length entries → first_names (map (λ e. e.aspect) (filter own entries)) ≡ [] → 0 < length (of_aspect entries [])
unfolding first_names
first-row [] some none = absurd (omega (arith, some))
first-row (e ∷ rest) some none = elim (cases_Bool (is_every e)) [
  | inl v ↦ rw (v, or-true (same_text e.aspect [])) (omega arith)
  | inr v ↦ let no : e.aspect ∷ filter (λ other. not (same_text other e.aspect)) (first_names (map (λ f. f.aspect) (filter own rest))) ≡ [] = rw v at none in absurd (cc)
]

rows-shaped : (entries : List Entry) (names : List (List ℕ)) → list_all (has_own entries) names ≡ true → (names ≡ [] → 0 < length (of_aspect entries []))
    → first_of aspect_fault (map (of_aspect entries) (one_at_least names)) ≡ None → first_of (uneven_fault (size (map (of_aspect entries) (one_at_least names)))) (map (of_aspect entries) (one_at_least names)) ≡ None
    → IsShaped (map (of_aspect entries) (one_at_least names))
unfolding first_of
rows-shaped entries [] owns some faultless even =
    let b = of_aspect entries [] in
    record { some = omega arith; above = some refl; few = few-of b (or-none (aspect_fault b) None faultless).0; sized = rw (eq-eqb (length b) (length b) refl) refl }
rows-shaped entries (name ∷ names) owns some faultless even =
    let b = of_aspect entries name in
    let bs = map (of_aspect entries) names in
    let o = and-true (has_own entries name) (list_all (has_own entries) names) owns in
    record {
      some = omega arith;
      above = some-there own b o.0;
      few = few-of b (or-none (aspect_fault b) (first_of aspect_fault bs) faultless).0;
      sized = all-sized (length b) entries (name ∷ names) owns even;
    }

-- ---- the order of balises

ones : (xs : List Entry) → sum_by (λ (e : Entry). 1) xs ≡ length xs
ones [] = refl
ones (x ∷ xs) = omega (arith, sum_by-cons (λ (e : Entry). 1) x xs, ones xs)

as-many : (balises : List Entry) → length (in_order balises) ≡ length balises
as-many balises = sym (ones (in_order balises)) ∙ order-count (λ e. 1) balises ∙ ones balises

sizes-kept : (n : ℕ) (aspects : List (List Entry)) → list_all (has_size n) (map in_order aspects) ≡ list_all (has_size n) aspects
sizes-kept n [] = refl
sizes-kept n (b ∷ aspects) = rw (as-many b) (ap (λ r. has_size n b && r) (sizes-kept n aspects))

size-kept : (aspects : List (List Entry)) → size (map in_order aspects) ≡ size aspects
size-kept [] = refl
size-kept (b ∷ aspects) = as-many b

ordered-shaped : (aspects : List (List Entry)) → IsShaped aspects → IsShaped (map in_order aspects)
ordered-shaped aspects so =
    let n = length-map aspects in_order in
    let s = size-kept aspects in
    record {
      some = omega (arith, n, so.some);
      above = omega (arith, s, so.above);
      few = omega (arith, s, so.few);
      sized = ap (λ k. list_all (has_size k) (map in_order aspects)) s ∙ sizes-kept (size aspects) aspects ∙ so.sized;
    }

-- ---- groups

group-shaped : (rows : List Entry) → 0 < length rows → group_fault rows ≡ None → IsShaped (aspects_of rows)
group-shaped rows some none =
    let aspects = rows_of_aspects rows in
    let p = or-none (first_of (entry_fault (list_any has_aspect rows) (list_any is_numbered rows)) rows) (or_else (first_of aspect_fault aspects) (or_else (first_of (uneven_fault (size aspects)) aspects) (first_of (place_fault (aspects_of rows)) rows))) none in
    let q = or-none (first_of aspect_fault aspects) (or_else (first_of (uneven_fault (size aspects)) aspects) (first_of (place_fault (aspects_of rows)) rows)) p.1 in
    let r = or-none (first_of (uneven_fault (size aspects)) aspects) (first_of (place_fault (aspects_of rows)) rows) q.1 in
    ordered-shaped aspects (rows-shaped rows (first_names (map (λ e. e.aspect) (filter own rows))) (own-names rows) (first-row rows some) q.0 r.0)

named-shaped : (entries : List Entry) (names : List (List ℕ)) → list_all (has_row entries) names ≡ true → first_of group_fault (map (of_group entries) names) ≡ None → AreShaped (map (group_of entries) names)
unfolding first_of AreShaped
named-shaped entries [] rows none = tt
named-shaped entries (name ∷ names) rows none =
    let o = and-true (has_row entries name) (list_all (has_row entries) names) rows in
    let p = or-none (group_fault (of_group entries name)) (first_of group_fault (map (of_group entries) names)) none in
    (group-shaped (of_group entries name) (some-there any_row (of_group entries name) o.0) p.0, named-shaped entries names o.1 p.1)

ok_of : List Group → Result (List Group) TableFault → List Group
ok_of other (Ok groups) = groups
ok_of other (Err fault) = other

sound-are : (fault : Option TableFault) (made groups : List Group) → or_fault fault (Ok made) ≡ Ok groups → (fault ≡ None) × (made ≡ groups)
unfolding ok_of
sound-are None made groups e = (refl, ap (ok_of made) e)
sound-are (Some f) made groups e = absurd (cc)

pub groups-shaped : (entries : List Entry) (groups : List Group) → groups_of_entries entries ≡ Ok groups → AreShaped groups
groups-shaped entries groups is =
    let names = group_names entries in
    let s = sound-are (first_of group_fault (map (of_group entries) names)) (map (group_of entries) names) groups is in
    subst AreShaped s.1 (named-shaped entries names (row-names entries) s.0)

pub first-shaped : (group : Group) (groups : List Group) → AreShaped (group ∷ groups) → IsShaped group.aspects
unfolding AreShaped
first-shaped group groups so = so.0

pub others-shaped : (group : Group) (groups : List Group) → AreShaped (group ∷ groups) → AreShaped groups
unfolding AreShaped
others-shaped group groups so = so.1
