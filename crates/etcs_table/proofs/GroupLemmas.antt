-- The lists that the code makes are the rows of the aspects of a group, and of the groups of a table.
use Rattle.std.proofs.Common.{◌≡◌, ◌∙◌, sym, ap, refl, ℕ, ◌+◌, ◌<◌, Bool, true, false, not, ◌||◌, inl, inr, List, [], ◌∷◌, ◌++◌, length, map, get_or, take, drop, Option, Some, None, Ok, Err, arith}
use Rattle.std.proofs.lemmas.Bool.{cases_Bool}
use Rattle.std.proofs.lemmas.List.{get_or-map, length-map, map-append, take_more}
use Rattle.std.specs.List.{filter, find, list_any}
use Rattle.etcs_table.specs.Entries.{Entry}
use Rattle.etcs_table.specs.Endings.{IsFirstFault}
use Rattle.etcs_table.specs.Faults.{FailsAs, or_else, or_fault}
use Rattle.etcs_table.specs.declared.error.TableError.{TableError}
use Rattle.etcs_table.specs.declared.error.TableError.TheVariants as errors
use Rattle.etcs_table.proofs.LoopLemmas.{fault-found}
use Rattle.etcs_table.specs.Groups.{Group, aspect_fault, aspect_names, aspects_of, entry_fault, first_names, first_of, group_fault, group_names, group_of, groups_of_entries, has_aspect, is_every, is_numbered, of_aspect, of_group, one_at_least, place_fault, rows_of_aspects, uneven_fault}
use Rattle.etcs_table.specs.Text.{same_text}
use Rattle.etcs_table.specs.declared.error.TableFault.{TableFault}
use Rattle.etcs_table.specs.Lists.{names_of, of}
use Rattle.etcs_table.specs.RowLists.{AreAspectLists, AreGroupLists, aspect_of, group_name, is_of_none}
use Rattle.etcs_table.proofs.NameLemmas.{any-first_names, of-new}

-- ---- aspects

some-names : {Y : Type 0} (f : List ℕ → Y) (lists : List Y) (names : List (List ℕ)) → lists ≡ map f names → 0 < length lists → lists ≡ map f (one_at_least names)
some-names f lists [] e h = let k : 0 < 0 = rw e at h in absurd (omega arith)
some-names f lists (n ∷ names) e h = e

no-names : {Y : Type 0} (f : List ℕ → Y) (lists : List Y) (names : List (List ℕ)) → lists ≡ map f names → length lists ≡ 0 → (lists ≡ []) × (names ≡ [])
no-names f lists [] e h = (e, refl)
no-names f lists (n ∷ names) e h = let k : length (map f (n ∷ names)) ≡ 0 = rw e at h in absurd (omega arith)

-- a row names an aspect
pub aspects-some : (names : List (List ℕ)) (shared : List Entry) (lists : List (List Entry)) (entries : List Entry) → AreAspectLists names shared lists entries → 0 < length lists → lists ≡ rows_of_aspects entries
aspects-some names shared lists entries a h =
    some-names (of_aspect entries) lists names a.lists_are h
    ∙ ap (λ ns. map (of_aspect entries) (one_at_least ns)) a.names_are

-- no row names an aspect
pub aspects-none : (names : List (List ℕ)) (shared : List Entry) (lists : List (List Entry)) (entries : List Entry) → AreAspectLists names shared lists entries → length lists ≡ 0 → lists ++ shared ∷ [] ≡ rows_of_aspects entries
aspects-none names shared lists entries a h =
    let n = no-names (of_aspect entries) lists names a.lists_are h in
    let none : first_names (names_of aspect_of is_every entries) ≡ [] = sym a.names_are ∙ n.1 in
    let lacks : list_any (same_text []) (names_of aspect_of is_every entries) ≡ false = sym (any-first_names [] (names_of aspect_of is_every entries)) ∙ ap (list_any (same_text [])) none in
    let all = of-new aspect_of is_every entries [] lacks in
    ap (λ l. l ++ shared ∷ []) n.0
    ∙ ap (λ s. s ∷ []) (a.shared_are ∙ sym all)
    ∙ sym (ap (λ ns. map (of_aspect entries) (one_at_least ns)) none)

-- the name of a row's aspect
abbrev pub name_at : Option Entry → List ℕ
name_at (Some e) = e.aspect
name_at None = []

-- the first name is that of the first row that is not of every aspect
pub first_name-find : (entries : List Entry) → get_or (aspect_names entries) 0 [] ≡ name_at (find (λ e. not (is_every e)) entries)
unfolding first_names
first_name-find [] = refl
first_name-find (e ∷ entries) = elim (cases_Bool (is_every e)) [
  | inl v ↦ rw v (first_name-find entries)
  | inr v ↦ rw v refl
]

first-of-map : {Y : Type 0} (f : List ℕ → List Y) (names : List (List ℕ)) → get_or (map f (one_at_least names)) 0 [] ≡ f (get_or (one_at_least names) 0 [])
first-of-map f [] = refl
first-of-map f (n ∷ names) = refl

-- the rows of the first aspect are those of the first name
pub first_aspect-is : (entries : List Entry) → get_or (rows_of_aspects entries) 0 [] ≡ of_aspect entries (get_or (aspect_names entries) 0 [])
first_aspect-is entries = first-of-map (of_aspect entries) (first_names (names_of aspect_of is_every entries))

first-fault : (f : TableFault) (rows : List ℕ → List Entry) (names : List (List ℕ)) → Some f ≡ aspect_fault (get_or (map rows (one_at_least names)) 0 []) → Some f ≡ first_of aspect_fault (map rows (one_at_least names))
unfolding first_of
first-fault f rows [] e = rw (← e) refl
first-fault f rows (n ∷ names) e = rw (← e) refl

-- a fault of the first aspect is the first of the aspects
pub first_aspect-fault : (entries : List Entry) (f : TableFault) → Some f ≡ aspect_fault (get_or (rows_of_aspects entries) 0 []) → Some f ≡ first_of aspect_fault (rows_of_aspects entries)
first_aspect-fault entries f e = first-fault f (of_aspect entries) (first_names (names_of aspect_of is_every entries)) e

-- ---- groups

filter-all : {X : Type 0} (xs : List X) → filter (λ (x : X). true) xs ≡ xs
filter-all [] = refl
filter-all (x ∷ xs) = ap (λ ys. x ∷ ys) (filter-all xs)

filter-ext : {X : Type 0} (p q : X → Bool) (xs : List X) → ((x : X) → p x ≡ q x) → filter p xs ≡ filter q xs
filter-ext p q [] e = refl
filter-ext p q (x ∷ xs) e = rw (e x, filter-ext p q xs e) refl

map-ext : {X Y : Type 0} (f g : X → Y) (xs : List X) → ((x : X) → f x ≡ g x) → map f xs ≡ map g xs
map-ext f g [] e = refl
map-ext f g (x ∷ xs) e = rw (e x, map-ext f g xs e) refl

or-false : (b : Bool) → (b || false) ≡ b
or-false true = refl
or-false false = refl

pub groups-named : (names : List (List ℕ)) (lists : List (List Entry)) (entries : List Entry) → AreGroupLists names lists entries → names ≡ group_names entries
groups-named names lists entries a = a.names_are ∙ ap (λ es. first_names (map group_name es)) (filter-all entries)

pub groups-listed : (names : List (List ℕ)) (lists : List (List Entry)) (entries : List Entry) → AreGroupLists names lists entries → lists ≡ map (of_group entries) (group_names entries)
groups-listed names lists entries a =
    a.lists_are
    ∙ map-ext (of group_name is_of_none entries) (of_group entries) names (λ name. filter-ext (λ e. same_text e.group name || false) (λ e. same_text e.group name) entries (λ e. or-false (same_text e.group name)))
    ∙ ap (map (of_group entries)) (groups-named names lists entries a)

-- ---- the first fault of several kinds

abbrev entry_part : List Entry → Option TableFault
entry_part entries = first_of (entry_fault (list_any has_aspect entries) (list_any is_numbered entries)) entries

abbrev aspect_part : List Entry → Option TableFault
aspect_part entries = first_of aspect_fault (rows_of_aspects entries)

abbrev uneven_part : List Entry → Option TableFault
uneven_part entries = first_of (uneven_fault (length (get_or (rows_of_aspects entries) 0 []))) (rows_of_aspects entries)

abbrev place_part : List Entry → Option TableFault
place_part entries = first_of (place_fault (aspects_of entries)) entries

-- the first is an entry's
pub by_entry : (es : List Entry) (f : TableFault) → Some f ≡ entry_part es → group_fault es ≡ Some f
by_entry es f e = ap (λ a. or_else a (or_else (aspect_part es) (or_else (uneven_part es) (place_part es)))) (sym e)

-- no entry has a fault, and the first is an aspect's
pub by_aspect : (es : List Entry) (f : TableFault) → None ≡ entry_part es → Some f ≡ aspect_part es → group_fault es ≡ Some f
by_aspect es f n e =
    ap (λ a. or_else a (or_else (aspect_part es) (or_else (uneven_part es) (place_part es)))) (sym n)
    ∙ ap (λ a. or_else a (or_else (uneven_part es) (place_part es))) (sym e)

-- the first is a count's
pub by_count : (es : List Entry) (f : TableFault) → None ≡ entry_part es → None ≡ aspect_part es → Some f ≡ uneven_part es → group_fault es ≡ Some f
by_count es f n m e =
    ap (λ a. or_else a (or_else (aspect_part es) (or_else (uneven_part es) (place_part es)))) (sym n)
    ∙ ap (λ a. or_else a (or_else (uneven_part es) (place_part es))) (sym m)
    ∙ ap (λ a. or_else a (place_part es)) (sym e)

-- the first is a place's, or none
pub by_place : (es : List Entry) (found : Option TableFault) → None ≡ entry_part es → None ≡ aspect_part es → None ≡ uneven_part es → found ≡ place_part es → group_fault es ≡ found
by_place es found n m o e =
    ap (λ a. or_else a (or_else (aspect_part es) (or_else (uneven_part es) (place_part es)))) (sym n)
    ∙ ap (λ a. or_else a (or_else (uneven_part es) (place_part es))) (sym m)
    ∙ ap (λ a. or_else a (place_part es)) (sym o)
    ∙ sym e

-- ---- the groups of a table

-- the group of a name, and the result if there is no fault
pub all-sound : (es : List Entry) (groups : List Group) → None ≡ first_of group_fault (map (of_group es) (group_names es)) → groups ≡ map (group_of es) (group_names es) → groups_of_entries es ≡ Ok groups
all-sound es groups n e =
    ap (λ f. or_fault f (Ok (map (group_of es) (group_names es)))) (sym n) ∙ ap Ok (sym e)

pub one-wrong : (es : List Entry) (f : TableFault) → Some f ≡ first_of group_fault (map (of_group es) (group_names es)) → groups_of_entries es ≡ Err f
one-wrong es f e = ap (λ o. or_fault o (Ok (map (group_of es) (group_names es)))) (sym e)

-- a fault of a group is the first of the table, if none was found before
pub wrong-here : (es : List Entry) (lists : List (List Entry)) (i : ℕ) (rows : List Entry) (error : TableError) → lists ≡ map (of_group es) (group_names es)
    → drop i lists ≡ rows ∷ drop (i + 1) lists → first_of group_fault (drop i lists) ≡ first_of group_fault lists → IsFirstFault (group_fault rows) error → FailsAs (groups_of_entries es) error
wrong-here es lists i rows errors.Memory l d inv e = tt
wrong-here es lists i rows (errors.Fault f) l d inv e =
    one-wrong es f (fault-found group_fault lists i rows f (first_of group_fault lists) d e inv ∙ ap (first_of group_fault) l)

-- one group more
pub group-more : (es : List Entry) (lists : List (List Entry)) (done : List Group) (i : ℕ) (name : List ℕ) (rows : List Entry) → lists ≡ map (of_group es) (group_names es)
    → i < length lists → name ≡ get_or (group_names es) i [] → rows ≡ get_or lists i rows → done ≡ map (group_of es) (take i (group_names es))
    → done ++ (record { name = name; aspects = aspects_of rows }) ∷ [] ≡ map (group_of es) (take (i + 1) (group_names es))
group-more es lists done i name rows l lt n r inv =
    let names : List (List ℕ) = group_names es in
    let long : length lists ≡ length names = ap length l ∙ length-map names (of_group es) in
    let lt2 : i < length names = omega arith in
    let mine : rows ≡ of_group es (get_or names i []) = r ∙ ap (λ ls. get_or ls i rows) l ∙ get_or-map (of_group es) names i [] rows lt2 in
    ap (λ ys. ys ++ (record { name = name; aspects = aspects_of rows }) ∷ []) inv
    ∙ ap (λ ns. map (group_of es) (take i names) ++ (record { name = ns; aspects = aspects_of rows }) ∷ []) n
    ∙ ap (λ rs. map (group_of es) (take i names) ++ (record { name = get_or names i []; aspects = aspects_of rs }) ∷ []) mine
    ∙ sym (ap (map (group_of es)) (take_more names i [] lt2) ∙ map-append (group_of es) (take i names) (get_or names i [] ∷ []))
