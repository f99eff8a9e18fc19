-- Rows that are appended to lists of references, as their values see it.
use Rattle.std.proofs.Common.{◌≡◌, ◌∙◌, sym, ap, refl, ℕ, zero, suc, ◌+◌, ◌<◌, Bool, true, false, not, inl, inr, List, [], ◌∷◌, ◌++◌, length, get_or, set, take, drop, cond, Some, None, slice_get, arith}
use Rattle.std.proofs.lemmas.List.{append_assoc, drop_more, get_or-map, get_or_at, length-append, length-drop, length-map, length-take, map-append, map-set, set_at, take_more}
use Rattle.std.proofs.lemmas.Bool.{cases_Bool}
use Rattle.std.specs.List.{list_any, position_or_len}
use Rattle.std.specs.Global.{Vec}
use Rattle.std.specs.Prelude.{nat_eq}
use Rattle.std.specs.Cmp.Lexicographic.{pointwise}
use denote.Ref.{Bor}
use Rattle.etcs_table.specs.Lists.{with_name, with_row, with_row_at, with_row_each}
use Rattle.etcs_table.specs.Pointed.{pointed, pointed_lists}
use Rattle.etcs_table.specs.Text.{same_text}
use Rattle.etcs_table.proofs.LoopLemmas.{list_any-pointed, value, values}

-- a key of a set is the same as this text
abbrev pub is_key : List ℕ → Bor (List ℕ) → Bool
is_key k x = pointwise nat_eq k x.now

position-pointed : (k : List ℕ) (ks : List (Bor (List ℕ))) → position_or_len (is_key k) ks ≡ position_or_len (same_text k) (pointed ks)
position-pointed k [] = refl
position-pointed k (x ∷ xs) = rw (position-pointed k xs) refl

keys-pointed : (b : Bool) (k : Bor (List ℕ)) (ks : List (Bor (List ℕ))) → pointed (cond b ks (ks ++ k ∷ [])) ≡ cond b (pointed ks) (pointed ks ++ k.now ∷ [])
keys-pointed true k ks = refl
keys-pointed false k ks = map-append value ks (k ∷ [])

-- the names of a set with one more
pub names-pointed : (k : Bor (List ℕ)) (ks ls : List (Bor (List ℕ))) → ls ≡ cond (list_any (is_key k.now) ks) ks (ks ++ k ∷ []) → pointed ls ≡ with_name (pointed ks) k.now
names-pointed k ks ls e =
    ap pointed e
    ∙ keys-pointed (list_any (is_key k.now) ks) k ks
    ∙ ap (λ b. cond b (pointed ks) (pointed ks ++ k.now ∷ [])) (sym (list_any-pointed (same_text k.now) ks))

not-new : (a b : Bool) → b ≡ not a → b ≡ true → a ≡ false
not-new true b e h = let k : false ≡ true = sym e ∙ h in cc
not-new false b e h = refl

not-old : (a b : Bool) → b ≡ not a → b ≡ false → a ≡ true
not-old true b e h = refl
not-old false b e h = let k : true ≡ false = sym e ∙ h in cc

appended : {X : Type 0} (xs ys : List (Bor X)) (x : Bor X) → ys ≡ xs ++ x ∷ [] → pointed ys ≡ pointed xs ++ x.now ∷ []
appended xs ys x e = ap pointed e ∙ map-append value xs (x ∷ [])

-- a new list
pub row-new : {X : Type 0} (k : Bor (List ℕ)) (ks : List (Bor (List ℕ))) (b : Bool) (every : List (Bor X)) (lists later : List (Vec (Bor X))) (list : Vec (Bor X)) (row : Bor X)
    → b ≡ not (list_any (is_key k.now) ks) → b ≡ true → list.items ≡ every ++ row ∷ [] → later ≡ lists ++ list ∷ []
    → pointed_lists later ≡ with_row (pointed ks) (pointed every) (pointed_lists lists) k.now row.now
row-new k ks b every lists later list row added is e l =
    let new : list_any (same_text k.now) (pointed ks) ≡ false = list_any-pointed (same_text k.now) ks ∙ not-new (list_any (is_key k.now) ks) b added is in
    let all : pointed_lists later ≡ pointed_lists lists ++ (pointed every ++ row.now ∷ []) ∷ [] =
    ap pointed_lists l ∙ map-append values lists (list ∷ []) ∙ ap (λ v. pointed_lists lists ++ v ∷ []) (appended every list.items row e) in
    rw new all

place-within : {X : Type 0} (p : X → Bool) (xs : List X) → list_any p xs ≡ true → position_or_len p xs < length xs
place-within p [] h = cc
place-within p (x ∷ xs) h = elim (cases_Bool (p x)) [
  | inl e ↦ rw e (omega arith)
  | inr e ↦ let h2 : list_any p xs ≡ true = rw e at h in rw e (omega (arith, place-within p xs h2))
]

-- the list of a name
pub row-old : {X : Type 0} (k : Bor (List ℕ)) (ks : List (Bor (List ℕ))) (b : Bool) (every : List (Bor X)) (lists : List (Vec (Bor X))) (place : ℕ) (list later : Vec (Bor X)) (row : Bor X)
    → b ≡ not (list_any (is_key k.now) ks) → b ≡ false → place ≡ position_or_len (is_key k.now) ks → length ks ≡ length lists → list ≡ get_or lists place list → later.items ≡ list.items ++ row ∷ []
    → pointed_lists (set lists place later) ≡ with_row (pointed ks) (pointed every) (pointed_lists lists) k.now row.now
row-old k ks b every lists place list later row added is at same read e =
    let known : list_any (is_key k.now) ks ≡ true = not-old (list_any (is_key k.now) ks) b added is in
    let old : list_any (same_text k.now) (pointed ks) ≡ true = list_any-pointed (same_text k.now) ks ∙ known in
    let within = place-within (is_key k.now) ks known in
    let lt : place < length lists = omega arith in
    let here : pointed list.items ≡ get_or (pointed_lists lists) place [] = ap values read ∙ sym (get_or-map values lists place list [] lt) in
    let set_now : pointed_lists (set lists place later) ≡ with_row_at (pointed_lists lists) place row.now =
    map-set values lists place later ∙ ap (λ v. set (pointed_lists lists) place v) (appended list.items later.items row e ∙ ap (λ l. l ++ row.now ∷ []) here) in
    let all : pointed_lists (set lists place later) ≡ with_row_at (pointed_lists lists) (position_or_len (same_text k.now) (pointed ks)) row.now =
    set_now ∙ ap (λ p. with_row_at (pointed_lists lists) p row.now) (at ∙ position-pointed k.now ks) in
    rw old all

-- one list more has the row
pub each-more : {X : Type 0} (lists : List (List X)) (now : List (Vec (Bor X))) (i : ℕ) (list later : Vec (Bor X)) (row : Bor X)
    → i < length now → list ≡ get_or now i list → later.items ≡ list.items ++ row ∷ []
    → pointed_lists now ≡ with_row_each (take i lists) row.now ++ drop i lists
    → pointed_lists (set now i later) ≡ with_row_each (take (i + 1) lists) row.now ++ drop (i + 1) lists
each-more {X} lists now i list later row lt read e inv =
    let done : List (List X) = with_row_each (take i lists) row.now in
    let counts = ap length inv in
    let a = length-map now (values {X = X}) in
    let b = length-append done (drop i lists) in
    let c = length-map (take i lists) (λ (l : List X). l ++ row.now ∷ []) in
    let f = length-take i lists in
    let g = length-drop i lists in
    let inside : i < length lists = omega arith in
    let long : length done ≡ i = omega arith in
    let x : List X = get_or lists i [] in
    let split : drop i lists ≡ x ∷ drop (i + 1) lists = drop_more lists i [] inside in
    let inv2 : pointed_lists now ≡ done ++ x ∷ drop (i + 1) lists = inv ∙ ap (λ l. done ++ l) split in
    let here : pointed list.items ≡ x =
    ap values read ∙ sym (get_or-map values now i list [] lt) ∙ ap (λ l. get_or l i []) inv2 ∙ get_or_at done x (drop (i + 1) lists) [] i long in
    let new : pointed later.items ≡ x ++ row.now ∷ [] = appended list.items later.items row e ∙ ap (λ l. l ++ row.now ∷ []) here in
    map-set values now i later
    ∙ ap (λ l. set l i (pointed later.items)) inv2
    ∙ set_at done x (drop (i + 1) lists) (pointed later.items) i long
    ∙ ap (λ v. done ++ v ∷ drop (i + 1) lists) new
    ∙ sym (append_assoc done ((x ++ row.now ∷ []) ∷ []) (drop (i + 1) lists))
    ∙ ap (λ l. l ++ drop (i + 1) lists) (sym (ap (λ l. with_row_each l row.now) (take_more lists i [] inside) ∙ map-append (λ l. l ++ row.now ∷ []) (take i lists) (x ∷ [])))

-- the first list
pub first-list : {X : Type 0} (lists : List (Vec (Bor X))) (list : Vec (Bor X)) → Some list ≡ slice_get lists 0 → pointed list.items ≡ get_or (pointed_lists lists) 0 []
first-list [] list e = cc
first-list (l ∷ lists) list e = let k : list ≡ l = cc in ap values k

pub no-list : {X : Type 0} (lists : List (Vec (Bor X))) → None ≡ slice_get lists 0 → get_or (pointed_lists lists) 0 [] ≡ []
no-list [] e = refl
no-list (l ∷ lists) e = cc

-- ---- names by their places

pub name-there : (ks : List (Bor (List ℕ))) (i : ℕ) (k : Bor (List ℕ)) → Some k ≡ slice_get ks i → k.now ≡ get_or (pointed ks) i []
name-there [] i k e = cc
name-there (x ∷ ks) zero k e = let q : k ≡ x = cc in ap value q
name-there (x ∷ ks) (suc i) k e = name-there ks i k e

pub no-name : (ks : List (Bor (List ℕ))) (i : ℕ) → None ≡ slice_get ks i → get_or (pointed ks) i [] ≡ []
no-name [] i e = refl
no-name (x ∷ ks) zero e = cc
no-name (x ∷ ks) (suc i) e = no-name ks i e
