-- Steps of loops over a list, of which contracts see the values of its elements: the references of a list, or its lists.
use Rattle.std.proofs.Common.{◌≡◌, ℕ, ◌+◌, ◌<◌, ◌≤◌, Bool, true, false, List, [], ◌∷◌, ◌++◌, map, take, drop, get_or, length, Option, None, Some, ◌||◌, refl, sym, ap, ◌∙◌, arith}
use Rattle.std.proofs.lemmas.List.{drop_more, drop_all, take_more, take_all, drop-map, take-map, map-append, append-nil}
use Rattle.std.specs.List.{filter, find, fold, insert, list_any, position_or_len}
use Rattle.std.proofs.lemmas.List.Elements.{filter-append}
use Rattle.etcs_table.specs.Groups.{first_of, first_repeated, precedes, same_number, with_entry}
use denote.Ref.{Bor}
use Rattle.std.specs.Global.{Vec}
use Rattle.etcs_table.specs.Entries.{Entry}
use Rattle.etcs_table.specs.Pointed.{pointed}
use Rattle.etcs_table.specs.declared.error.TableFault.{TableFault}
use Rattle.etcs_table.specs.declared.error.TableFault.TheVariants.{Repeated}

-- ---- the elements of a step

-- what is left begins with the element of this step
pub rest : {X Y : Type 0} (f : X → Y) (xs : List X) (i : ℕ) (x : X) → i < length xs → x ≡ get_or xs i x → drop i (map f xs) ≡ f x ∷ drop (i + 1) (map f xs)
rest f xs i x lt is =
    drop-map f i xs
    ∙ ap (map f) (drop_more xs i x lt)
    ∙ ap (λ y. f y ∷ map f (drop (i + 1) xs)) (sym is)
    ∙ ap (λ ys. f x ∷ ys) (sym (drop-map f (i + 1) xs))

-- nothing is left
pub ended : {X Y : Type 0} (f : X → Y) (xs : List X) (i : ℕ) → length xs ≤ i → drop i (map f xs) ≡ []
ended f xs i le = drop-map f i xs ∙ ap (map f) (drop_all i xs le)

-- what is passed ends with the element of this step
pub front : {X Y : Type 0} (f : X → Y) (xs : List X) (i : ℕ) (x : X) → i < length xs → x ≡ get_or xs i x → take (i + 1) (map f xs) ≡ take i (map f xs) ++ f x ∷ []
front f xs i x lt is =
    take-map f (i + 1) xs
    ∙ ap (map f) (take_more xs i x lt)
    ∙ map-append f (take i xs) (get_or xs i x ∷ [])
    ∙ ap (λ y. map f (take i xs) ++ f y ∷ []) (sym is)
    ∙ ap (λ ys. ys ++ f x ∷ []) (sym (take-map f i xs))

-- all is passed
pub whole : {X Y : Type 0} (f : X → Y) (xs : List X) (i : ℕ) → length xs ≤ i → take i (map f xs) ≡ map f xs
whole f xs i le = take-map f i xs ∙ ap (map f) (take_all i xs le)

-- ---- the first fault of a list

pub fault-found : {X : Type 0} (h : X → Option TableFault) (xs : List X) (i : ℕ) (x : X) (f : TableFault) (all : Option TableFault) → drop i xs ≡ x ∷ drop (i + 1) xs → h x ≡ Some f → first_of h (drop i xs) ≡ all → Some f ≡ all
unfolding first_of
fault-found h xs i x f all d e inv = rw (d, e) at inv

pub fault-passed : {X : Type 0} (h : X → Option TableFault) (xs : List X) (i : ℕ) (x : X) (all : Option TableFault) → drop i xs ≡ x ∷ drop (i + 1) xs → h x ≡ None → first_of h (drop i xs) ≡ all → first_of h (drop (i + 1) xs) ≡ all
unfolding first_of
fault-passed h xs i x all d e inv = rw (d, e) at inv

pub fault-ended : {X : Type 0} (h : X → Option TableFault) (xs : List X) (i : ℕ) (all : Option TableFault) → drop i xs ≡ [] → first_of h (drop i xs) ≡ all → None ≡ all
unfolding first_of
fault-ended h xs i all d inv = rw d at inv

-- ---- the first place and the first element that pass a test

pub place-found : {X : Type 0} (p : X → Bool) (xs : List X) (i : ℕ) (x : X) (all : ℕ) → drop i xs ≡ x ∷ drop (i + 1) xs → p x ≡ true → i + position_or_len p (drop i xs) ≡ all → i ≡ all
place-found p xs i x all d e inv = let k : i + 0 ≡ all = rw (d, e) at inv in omega arith

pub place-passed : {X : Type 0} (p : X → Bool) (xs : List X) (i : ℕ) (x : X) (all : ℕ) → drop i xs ≡ x ∷ drop (i + 1) xs → p x ≡ false → i + position_or_len p (drop i xs) ≡ all → i + 1 + position_or_len p (drop (i + 1) xs) ≡ all
place-passed p xs i x all d e inv = let k : i + (1 + position_or_len p (drop (i + 1) xs)) ≡ all = rw (d, e) at inv in omega arith

pub place-ended : {X : Type 0} (p : X → Bool) (xs : List X) (i : ℕ) (all : ℕ) → drop i xs ≡ [] → i + position_or_len p (drop i xs) ≡ all → i ≡ all
place-ended p xs i all d inv = let k : i + 0 ≡ all = rw d at inv in omega arith

pub find-found : {X : Type 0} (p : X → Bool) (xs : List X) (i : ℕ) (x : X) (all : Option X) → drop i xs ≡ x ∷ drop (i + 1) xs → p x ≡ true → find p (drop i xs) ≡ all → Some x ≡ all
find-found p xs i x all d e inv = rw (d, e) at inv

pub find-passed : {X : Type 0} (p : X → Bool) (xs : List X) (i : ℕ) (x : X) (all : Option X) → drop i xs ≡ x ∷ drop (i + 1) xs → p x ≡ false → find p (drop i xs) ≡ all → find p (drop (i + 1) xs) ≡ all
find-passed p xs i x all d e inv = rw (d, e) at inv

pub find-ended : {X : Type 0} (p : X → Bool) (xs : List X) (i : ℕ) (all : Option X) → drop i xs ≡ [] → find p (drop i xs) ≡ all → None ≡ all
find-ended p xs i all d inv = rw d at inv

-- ---- whether one passes

pub any-found : {X : Type 0} (p : X → Bool) (xs : List X) (i : ℕ) (x : X) (all : Bool) → drop i xs ≡ x ∷ drop (i + 1) xs → p x ≡ true → list_any p (drop i xs) ≡ all → true ≡ all
any-found p xs i x all d e inv = rw (d, e) at inv

pub any-passed : {X : Type 0} (p : X → Bool) (xs : List X) (i : ℕ) (x : X) (all : Bool) → drop i xs ≡ x ∷ drop (i + 1) xs → p x ≡ false → list_any p (drop i xs) ≡ all → list_any p (drop (i + 1) xs) ≡ all
any-passed p xs i x all d e inv = rw (d, e) at inv

pub any-ended : {X : Type 0} (p : X → Bool) (xs : List X) (i : ℕ) (all : Bool) → drop i xs ≡ [] → list_any p (drop i xs) ≡ all → false ≡ all
any-ended p xs i all d inv = rw d at inv

-- ---- filters, folds, maps

pub filter-more : {X : Type 0} (p : X → Bool) (xs done : List X) (i : ℕ) (x : X) → take (i + 1) xs ≡ take i xs ++ x ∷ [] → p x ≡ true → done ≡ filter p (take i xs) → done ++ x ∷ [] ≡ filter p (take (i + 1) xs)
filter-more p xs done i x t e inv = rw (t, filter-append p (take i xs) (x ∷ []), e, inv) refl

pub filter-same : {X : Type 0} (p : X → Bool) (xs done : List X) (i : ℕ) (x : X) → take (i + 1) xs ≡ take i xs ++ x ∷ [] → p x ≡ false → done ≡ filter p (take i xs) → done ≡ filter p (take (i + 1) xs)
filter-same p xs done i x t e inv = rw (t, filter-append p (take i xs) (x ∷ []), e, inv) (sym (append-nil (filter p (take i xs))))

pub fold_push : {X Y : Type 0} (f : Y → X → Y) (a : Y) (xs : List X) (x : X) → fold f a (xs ++ x ∷ []) ≡ f (fold f a xs) x
fold_push f a [] x = refl
fold_push f a (y ∷ ys) x = fold_push f (f a y) ys x

pub map-insert : {X Y : Type 0} (f : X → Y) (xs : List X) (i : ℕ) (x : X) → map f (insert xs i x) ≡ insert (map f xs) i (f x)
map-insert f xs i x = rw (map-append f (take i xs) (x ∷ drop i xs), take-map f i xs, drop-map f i xs) refl

pub map-more : {X Y : Type 0} (f : X → Y) (xs : List X) (done : List Y) (i : ℕ) (x : X) → take (i + 1) xs ≡ take i xs ++ x ∷ [] → done ≡ map f (take i xs) → done ++ f x ∷ [] ≡ map f (take (i + 1) xs)
map-more f xs done i x t inv = ap (λ ys. ys ++ f x ∷ []) inv ∙ sym (ap (map f) t ∙ map-append f (take i xs) (x ∷ []))

-- ---- lists of references

-- a reference's value
abbrev pub value : {X : Type 0} → Bor X → X
value r = r.now

-- the values of a list of references
abbrev pub values : {X : Type 0} → Vec (Bor X) → List X
values list = pointed list.items

pub list_any-pointed : {X : Type 0} (p : X → Bool) (xs : List (Bor X)) → list_any p (pointed xs) ≡ list_any (λ (r : Bor X). p r.now) xs
list_any-pointed p [] = refl
list_any-pointed p (x ∷ xs) = ap (λ b. p x.now || b) (list_any-pointed p xs)

-- ---- balises

pub repeated-found : (xs : List Entry) (i : ℕ) (x : Entry) (all : Option TableFault) → drop i xs ≡ x ∷ drop (i + 1) xs → list_any (λ f. same_number x.number f.number) (take i xs) ≡ true → first_repeated (take i xs) (drop i xs) ≡ all → Some (Repeated x.row) ≡ all
unfolding first_repeated
repeated-found xs i x all d e inv = rw (d, e) at inv

pub repeated-passed : (xs : List Entry) (i : ℕ) (x : Entry) (all : Option TableFault) → drop i xs ≡ x ∷ drop (i + 1) xs → take (i + 1) xs ≡ take i xs ++ x ∷ [] → list_any (λ f. same_number x.number f.number) (take i xs) ≡ false → first_repeated (take i xs) (drop i xs) ≡ all → first_repeated (take (i + 1) xs) (drop (i + 1) xs) ≡ all
unfolding first_repeated
repeated-passed xs i x all d t e inv =
    let k : first_repeated (take i xs ++ x ∷ []) (drop (i + 1) xs) ≡ all = rw (d, e) at inv in
    rw t k

pub repeated-ended : (xs : List Entry) (i : ℕ) (all : Option TableFault) → drop i xs ≡ [] → first_repeated (take i xs) (drop i xs) ≡ all → None ≡ all
unfolding first_repeated
repeated-ended xs i all d inv = rw d at inv

pub order-more : (xs : List Entry) (sorted : List (Bor Entry)) (i place : ℕ) (x : Bor Entry) → take (i + 1) xs ≡ take i xs ++ x.now ∷ [] → place ≡ position_or_len (λ f. precedes x.now.number f.number) (pointed sorted) → pointed sorted ≡ fold with_entry [] (take i xs) → pointed (insert sorted place x) ≡ fold with_entry [] (take (i + 1) xs)
order-more xs sorted i place x t e inv =
    map-insert value sorted place x
    ∙ ap (λ p. insert (pointed sorted) p x.now) e
    ∙ ap (λ l. with_entry l x.now) inv
    ∙ sym (ap (fold with_entry []) t ∙ fold_push with_entry [] (take i xs) x.now)

pub filter-pushed : {X : Type 0} (p : X → Bool) (xs done : List (Bor X)) (i : ℕ) (x : Bor X) → i < length xs → x ≡ get_or xs i x → p x.now ≡ true → pointed done ≡ filter p (take i (pointed xs)) → pointed (done ++ x ∷ []) ≡ filter p (take (i + 1) (pointed xs))
filter-pushed p xs done i x lt is e inv =
    map-append value done (x ∷ []) ∙ filter-more p (pointed xs) (pointed done) i x.now (front value xs i x lt is) e inv

pub next : {X : Type 0} (xs : List X) (i : ℕ) (x : X) → i < length xs → x ≡ get_or xs i x → take (i + 1) xs ≡ take i xs ++ x ∷ []
next xs i x lt is = take_more xs i x lt ∙ ap (λ y. take i xs ++ y ∷ []) (sym is)
