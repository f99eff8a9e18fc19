-- No row is left out: what is counted over the lists of rows is what is counted over the rows.
use Rattle.std.proofs.Common.{◌≡◌, ◌∙◌, sym, ap, refl, ℕ, ◌+◌, ◌<◌, Bool, true, false, not, ◌||◌, cond, inl, inr, List, [], ◌∷◌, length, map, arith, zero-add}
use Rattle.std.proofs.lemmas.Bool.{cases_Bool}
use Rattle.std.proofs.lemmas.List.Sums.{sum_by-cons, sum_by-insert}
use Rattle.std.specs.List.{filter, fold, list_any, position_or_len, sum_by}
use Rattle.etcs_table.specs.Entries.{Entry}
use Rattle.etcs_table.specs.Groups.{aspect_names, first_names, group_names, in_order, is_every, of_aspect, of_group, one_at_least, precedes, with_entry}
use Rattle.etcs_table.specs.Text.{same_text}
use Rattle.etcs_table.proofs.NameLemmas.{AreDistinct, any-first_names, any-same, first_names-distinct, itself, or-true}

sum-ext : {Y : Type 0} (g h : Y → ℕ) (ys : List Y) → ((y : Y) → g y ≡ h y) → sum_by g ys ≡ sum_by h ys
sum-ext g h [] e = refl
sum-ext g h (y ∷ ys) e =
    sum_by-cons g y ys ∙ ap (λ s. g y + s) (sum-ext g h ys e) ∙ ap (λ a. a + sum_by h ys) (e y) ∙ sym (sum_by-cons h y ys)

sum-add : {Y : Type 0} (g h : Y → ℕ) (ys : List Y) → sum_by (λ y. g y + h y) ys ≡ sum_by g ys + sum_by h ys
sum-add g h [] = refl
sum-add g h (y ∷ ys) = omega (arith, sum_by-cons (λ y. g y + h y) y ys, sum_by-cons g y ys, sum_by-cons h y ys, sum-add g h ys)

sum-none : {Y : Type 0} (ys : List Y) → sum_by (λ (y : Y). 0) ys ≡ 0
sum-none [] = refl
sum-none {Y} (y ∷ ys) = sum_by-cons (λ (y : Y). 0) y ys ∙ ap (λ s. 0 + s) (sum-none ys)

-- a name that is not there counts nothing
absent : (k : List ℕ) (w : ℕ) (names : List (List ℕ)) → list_any (same_text k) names ≡ false → sum_by (λ n. cond (same_text k n) w 0) names ≡ 0
absent k w [] e = refl
absent k w (n ∷ names) e = elim (cases_Bool (same_text k n)) [
  | inl t ↦ let q : true ≡ false = rw t at e in cc
  | inr t ↦
      let q : list_any (same_text k) names ≡ false = rw t at e in
      sum_by-cons (λ n. cond (same_text k n) w 0) n names ∙ ap (λ b. cond b w 0 + sum_by (λ n. cond (same_text k n) w 0) names) t ∙ zero-add (sum_by (λ n. cond (same_text k n) w 0) names) ∙ absent k w names q
]

-- a name that is there counts once
present : (k : List ℕ) (w : ℕ) (names : List (List ℕ)) → AreDistinct names → list_any (same_text k) names ≡ true → sum_by (λ n. cond (same_text k n) w 0) names ≡ w
unfolding AreDistinct
present k w [] d e = cc
present k w (n ∷ names) d e = elim (cases_Bool (same_text k n)) [
  | inl t ↦
      let z = absent k w names (any-same k n names t d.0) in
      let a : cond (same_text k n) w 0 ≡ w = ap (λ b. cond b w 0) t in
      let s = sum_by-cons (λ n. cond (same_text k n) w 0) n names in
      omega (arith, z, a, s)
  | inr t ↦
      let q : list_any (same_text k) names ≡ true = rw t at e in
      sum_by-cons (λ n. cond (same_text k n) w 0) n names ∙ ap (λ b. cond b w 0 + sum_by (λ n. cond (same_text k n) w 0) names) t ∙ zero-add (sum_by (λ n. cond (same_text k n) w 0) names) ∙ present k w names d.1 q
]

pick : {X : Type 0} (f : X → ℕ) (b : Bool) (x : X) (ys : List X) → sum_by f (cond b (x ∷ ys) ys) ≡ cond b (f x) 0 + sum_by f ys
pick f true x ys = sum_by-cons f x ys
pick f false x ys = sym (zero-add (sum_by f ys))

some-distinct : (names : List (List ℕ)) → AreDistinct names → AreDistinct (one_at_least names)
unfolding AreDistinct
some-distinct [] d = (refl, tt)
some-distinct (n ∷ names) d = d

some-any : (k : List ℕ) (names : List (List ℕ)) → list_any (same_text k) names ≡ true → list_any (same_text k) (one_at_least names) ≡ true
some-any k [] e = cc
some-any k (n ∷ names) e = e

module _ {X : Type 0} (key : X → List ℕ) (f : X → ℕ) where
  -- each row has one of the names
  unfoldable AreNamed : List (List ℕ) → List X → Type 0
  AreNamed names [] = Unit {0}
  AreNamed names (x ∷ xs) = (list_any (same_text (key x)) names ≡ true) × AreNamed names xs

  named : (names : List (List ℕ)) (xs : List X) → ((k : List ℕ) → list_any (same_text k) (map key xs) ≡ true → list_any (same_text k) names ≡ true) → AreNamed names xs
  unfolding AreNamed
  named names [] h = tt
  named names (x ∷ xs) h =
      (h (key x) (rw (itself (key x)) refl), named names xs (λ k t. h k (ap (λ b. same_text k (key x) || b) t ∙ or-true (same_text k (key x)))))

  abbrev mine : List X → List ℕ → List X
  mine xs n = filter (λ x. same_text (key x) n) xs

  shared-out : (names : List (List ℕ)) (xs : List X) → AreDistinct names → AreNamed names xs → sum_by (λ n. sum_by f (mine xs n)) names ≡ sum_by f xs
  unfolding AreNamed
  shared-out names [] d a = sum-none names
  shared-out names (x ∷ xs) d a =
      sum-ext (λ n. sum_by f (mine (x ∷ xs) n)) (λ n. cond (same_text (key x) n) (f x) 0 + sum_by f (mine xs n)) names (λ n. pick f (same_text (key x) n) x (mine xs n))
      ∙ sum-add (λ n. cond (same_text (key x) n) (f x) 0) (λ n. sum_by f (mine xs n)) names
      ∙ ap (λ s. s + sum_by (λ n. sum_by f (mine xs n)) names) (present (key x) (f x) names d a.0)
      ∙ ap (λ s. f x + s) (shared-out names xs d a.1)
      ∙ sym (sum_by-cons f x xs)

  -- the names of rows share out the rows
  pub shared : (xs : List X) → sum_by (λ n. sum_by f (mine xs n)) (first_names (map key xs)) ≡ sum_by f xs
  shared xs =
      shared-out (first_names (map key xs)) xs (first_names-distinct (map key xs)) (named (first_names (map key xs)) xs (λ k t. any-first_names k (map key xs) ∙ t))

  -- so does one name more where there is none
  pub shared_by_some : (xs : List X) → sum_by (λ n. sum_by f (mine xs n)) (one_at_least (first_names (map key xs))) ≡ sum_by f xs
  shared_by_some xs =
      shared-out (one_at_least (first_names (map key xs))) xs (some-distinct (first_names (map key xs)) (first_names-distinct (map key xs))) (named (one_at_least (first_names (map key xs))) xs (λ k t. some-any k (first_names (map key xs)) (any-first_names k (map key xs) ∙ t)))

-- ---- groups, aspects, order

pub groups-count : (f : Entry → ℕ) (entries : List Entry) → sum_by (λ name. sum_by f (of_group entries name)) (group_names entries) ≡ sum_by f entries
groups-count f entries = shared (λ e. e.group) f entries

own-of : (entries : List Entry) (name : List ℕ) → filter (λ e. not (is_every e)) (of_aspect entries name) ≡ filter (λ e. same_text e.aspect name) (filter (λ e. not (is_every e)) entries)
own-of [] name = refl
own-of (e ∷ entries) name = elim (cases_Bool (is_every e)) [
  | inl v ↦ rw (v, or-true (same_text e.aspect name), v) (own-of entries name)
  | inr v ↦ elim (cases_Bool (same_text e.aspect name)) [
    | inl t ↦ rw (v, t, v) (ap (λ l. e ∷ l) (own-of entries name))
    | inr t ↦ rw (v, t) (own-of entries name)
  ]
]

pub own-count : (f : Entry → ℕ) (entries : List Entry) → sum_by (λ name. sum_by f (filter (λ e. not (is_every e)) (of_aspect entries name))) (aspect_names entries) ≡ sum_by f (filter (λ e. not (is_every e)) entries)
own-count f entries =
    sum-ext (λ name. sum_by f (filter (λ e. not (is_every e)) (of_aspect entries name))) (λ name. sum_by f (filter (λ e. same_text e.aspect name) (filter (λ e. not (is_every e)) entries))) (aspect_names entries) (λ name. ap (sum_by f) (own-of entries name))
    ∙ shared_by_some (λ e. e.aspect) f (filter (λ e. not (is_every e)) entries)

pub every-of : (entries : List Entry) (name : List ℕ) → filter is_every (of_aspect entries name) ≡ filter is_every entries
every-of [] name = refl
every-of (e ∷ entries) name = elim (cases_Bool (is_every e)) [
  | inl v ↦ rw (v, or-true (same_text e.aspect name), v) (ap (λ l. e ∷ l) (every-of entries name))
  | inr v ↦ elim (cases_Bool (same_text e.aspect name)) [
    | inl t ↦ rw (v, t, v) (every-of entries name)
    | inr t ↦ rw (v, t) (every-of entries name)
  ]
]

order-from : (f : Entry → ℕ) (sorted entries : List Entry) → sum_by f (fold with_entry sorted entries) ≡ sum_by f sorted + sum_by f entries
order-from f sorted [] = omega arith
order-from f sorted (e ∷ entries) =
    let step = sum_by-insert f sorted (position_or_len (λ g. precedes e.number g.number) sorted) e in
    let later = order-from f (with_entry sorted e) entries in
    omega (arith, step, later, sum_by-cons f e entries)

pub order-count : (f : Entry → ℕ) (entries : List Entry) → sum_by f (in_order entries) ≡ sum_by f entries
order-count f entries = order-from f [] entries ∙ zero-add (sum_by f entries)

pub some-aspect : (entries : List Entry) → 0 < length (aspect_names entries)
some-aspect entries = some (first_names (map (λ e. e.aspect) (filter (λ e. not (is_every e)) entries)))
  where
    some : (names : List (List ℕ)) → 0 < length (one_at_least names)
    some [] = omega arith
    some (n ∷ names) = omega arith
