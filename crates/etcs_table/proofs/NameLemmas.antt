-- Names in the order of their first appearance.
use Rattle.std.proofs.Common.{◌≡◌, ◌∙◌, sym, ap, subst, refl, ℕ, suc, ◌+◌, Bool, true, false, not, ◌||◌, inl, inr, List, [], ◌∷◌, ◌++◌, map, arith}
use Rattle.std.proofs.lemmas.List.{append-nil, map-append}
use Rattle.std.proofs.lemmas.Bool.{cases_Bool}
use Rattle.std.proofs.lemmas.Map.Views.{any-filter_same}
use Rattle.std.proofs.lemmas.Cmp.{nat_list_eq_equiv}
use Rattle.std.proofs.lemmas.List.Elements.{filter-append}
use Rattle.std.specs.List.{filter, list_any, position_or_len}
use Rattle.etcs_table.specs.Groups.{first_names}
use Rattle.etcs_table.specs.Lists.{AreLists, names_of, of, with_name, with_row, with_row_at, with_row_each}
use Rattle.etcs_table.specs.Text.{same_text}

pub itself : (a : List ℕ) → same_text a a ≡ true
itself a = nat_list_eq_equiv.refl a

pub turned : (a b : List ℕ) → same_text a b ≡ same_text b a
turned a b = nat_list_eq_equiv.symm a b

-- a text that is the same as another stands for it
pub stands : (a b c : List ℕ) → same_text a b ≡ true → same_text a c ≡ same_text b c
stands a b c e = nat_list_eq_equiv.congr a b c e

pub or-true : (b : Bool) → (b || true) ≡ true
or-true true = refl
or-true false = refl

or-false : (b : Bool) → (b || false) ≡ b
or-false true = refl
or-false false = refl

-- a filter that drops another name keeps this one
pub any-others : (n m : List ℕ) (names : List (List ℕ)) → same_text n m ≡ false → list_any (same_text n) (filter (λ other. not (same_text other m)) names) ≡ list_any (same_text n) names
any-others n m names e =
    any-filter_same (same_text n) (λ other. not (same_text other m)) true (λ k t. ap not (sym (stands n k m t) ∙ e)) names

-- and one that drops this name does
pub any-dropped : (n : List ℕ) (names : List (List ℕ)) → list_any (same_text n) (filter (λ other. not (same_text other n)) names) ≡ false
any-dropped n names =
    any-filter_same (same_text n) (λ other. not (same_text other n)) false (λ k t. ap not (turned k n ∙ t)) names

-- the first names are the names
pub any-first_names : (n : List ℕ) (names : List (List ℕ)) → list_any (same_text n) (first_names names) ≡ list_any (same_text n) names
unfolding first_names
any-first_names n [] = refl
any-first_names n (m ∷ names) = elim (cases_Bool (same_text n m)) [
  | inl e ↦ rw e refl
  | inr e ↦ rw (e, any-others n m (first_names names) e) (any-first_names n names)
]

-- one more name at the end
pub first_names-push : (names : List (List ℕ)) (n : List ℕ) → first_names (names ++ n ∷ []) ≡ with_name (first_names names) n
unfolding first_names
first_names-push [] n = refl
first_names-push (m ∷ names) n = elim (cases_Bool (same_text n m)) [
  | inl e ↦ elim (cases_Bool (list_any (same_text n) (first_names names))) [
    | inl k ↦ rw (first_names-push names n, k, e) refl
    | inr k ↦ rw (first_names-push names n, k, e, filter-append (λ other. not (same_text other m)) (first_names names) (n ∷ []), e) (ap (λ l. m ∷ l) (append-nil (filter (λ other. not (same_text other m)) (first_names names))))
  ]
  | inr e ↦ elim (cases_Bool (list_any (same_text n) (first_names names))) [
    | inl k ↦ rw (first_names-push names n, k, e, any-others n m (first_names names) e, k) refl
    | inr k ↦ rw (first_names-push names n, k, e, any-others n m (first_names names) e, k, filter-append (λ other. not (same_text other m)) (first_names names) (n ∷ []), e) refl
  ]
]

-- a name stands for another: neither is there
pub any-same : (k n : List ℕ) (names : List (List ℕ)) → same_text k n ≡ true → list_any (same_text n) names ≡ false → list_any (same_text k) names ≡ false
any-same k n [] t h = refl
any-same k n (m ∷ names) t h = elim (cases_Bool (same_text n m)) [
  | inl q ↦ let e : true ≡ false = rw q at h in cc
  | inr q ↦ let e : list_any (same_text n) names ≡ false = rw q at h in rw (stands k n m t, q) (any-same k n names t e)
]

-- ---- distinct names

-- no name stands twice
unfoldable pub AreDistinct : List (List ℕ) → Type 0
AreDistinct [] = Unit {0}
AreDistinct (n ∷ names) = (list_any (same_text n) names ≡ false) × AreDistinct names

any-filter_none : {X : Type 0} (test p : X → Bool) (xs : List X) → list_any test xs ≡ false → list_any test (filter p xs) ≡ false
any-filter_none test p [] e = refl
any-filter_none test p (x ∷ xs) e = elim (cases_Bool (test x)) [
  | inl t ↦ let k : true ≡ false = rw t at e in cc
  | inr t ↦
      let k : list_any test xs ≡ false = rw t at e in
      elim (cases_Bool (p x)) [
        | inl q ↦ rw (q, t) (any-filter_none test p xs k)
        | inr q ↦ rw q (any-filter_none test p xs k)
      ]
]

filter-distinct : (p : List ℕ → Bool) (names : List (List ℕ)) → AreDistinct names → AreDistinct (filter p names)
unfolding AreDistinct
filter-distinct p [] d = tt
filter-distinct p (n ∷ names) d = elim (cases_Bool (p n)) [
  | inl e ↦ rw e (any-filter_none (same_text n) p names d.0, filter-distinct p names d.1)
  | inr e ↦ rw e (filter-distinct p names d.1)
]

pub first_names-distinct : (names : List (List ℕ)) → AreDistinct (first_names names)
unfolding AreDistinct first_names
first_names-distinct [] = tt
first_names-distinct (n ∷ names) =
    (any-dropped n (first_names names), filter-distinct (λ other. not (same_text other n)) (first_names names) (first_names-distinct names))

-- ---- rows in lists by their names

one-more : (n : ℕ) → 1 + n ≡ suc n
one-more n = omega arith

module _ {X : Type 0} (key : X → List ℕ) (every : X → Bool) where
  of-push : (xs : List X) (x : X) (name : List ℕ) → (same_text (key x) name || every x) ≡ true → of key every (xs ++ x ∷ []) name ≡ of key every xs name ++ x ∷ []
  of-push xs x name e = rw (filter-append (λ x. same_text (key x) name || every x) xs (x ∷ []), e) refl

  of-other : (xs : List X) (x : X) (name : List ℕ) → (same_text (key x) name || every x) ≡ false → of key every (xs ++ x ∷ []) name ≡ of key every xs name
  of-other xs x name e = rw (filter-append (λ x. same_text (key x) name || every x) xs (x ∷ []), e) (append-nil (of key every xs name))

  -- a name that no row has
  pub of-new : (xs : List X) (name : List ℕ) → list_any (same_text name) (names_of key every xs) ≡ false → of key every xs name ≡ filter every xs
  of-new [] name e = refl
  of-new (x ∷ xs) name e = elim (cases_Bool (every x)) [
    | inl v ↦
        let k : list_any (same_text name) (names_of key every xs) ≡ false = rw v at e in
        rw (v, or-true (same_text (key x) name)) (ap (λ l. x ∷ l) (of-new xs name k))
    | inr v ↦ elim (cases_Bool (same_text name (key x))) [
      | inl t ↦ let k : true ≡ false = rw (v, t) at e in cc
      | inr t ↦
          let k : list_any (same_text name) (names_of key every xs) ≡ false = rw (v, t) at e in
          rw (v, or-false (same_text (key x) name), turned (key x) name, t) (of-new xs name k)
    ]
  ]

  map-each : (xs : List X) (x : X) (names : List (List ℕ)) → every x ≡ true → map (of key every (xs ++ x ∷ [])) names ≡ with_row_each (map (of key every xs) names) x
  map-each xs x [] v = refl
  map-each xs x (n ∷ names) v =
      let k : (same_text (key x) n || every x) ≡ true = rw v (or-true (same_text (key x) n)) in
      rw (of-push xs x n k, map-each xs x names v) refl

  map-none : (xs : List X) (x : X) (names : List (List ℕ)) → every x ≡ false → list_any (same_text (key x)) names ≡ false → map (of key every (xs ++ x ∷ [])) names ≡ map (of key every xs) names
  map-none xs x [] v e = refl
  map-none xs x (n ∷ names) v e = elim (cases_Bool (same_text (key x) n)) [
    | inl t ↦ let k : true ≡ false = rw t at e in cc
    | inr t ↦
        let k : list_any (same_text (key x)) names ≡ false = rw t at e in
        let o : (same_text (key x) n || every x) ≡ false = rw (t, v) refl in
        rw (of-other xs x n o, map-none xs x names v k) refl
  ]

  map-one : (xs : List X) (x : X) (names : List (List ℕ)) → every x ≡ false → AreDistinct names → list_any (same_text (key x)) names ≡ true → map (of key every (xs ++ x ∷ [])) names ≡ with_row_at (map (of key every xs) names) (position_or_len (same_text (key x)) names) x
  unfolding AreDistinct
  map-one xs x [] v d e = cc
  map-one xs x (n ∷ names) v d e = elim (cases_Bool (same_text (key x) n)) [
    | inl t ↦
        let o : (same_text (key x) n || every x) ≡ true = rw t refl in
        let a = any-same (key x) n names t d.0 in
        rw (t, of-push xs x n o, map-none xs x names v a) refl
    | inr t ↦
        let k : list_any (same_text (key x)) names ≡ true = rw t at e in
        let o : (same_text (key x) n || every x) ≡ false = rw (t, v) refl in
        rw (t, one-more (position_or_len (same_text (key x)) names), of-other xs x n o, map-one xs x names v d.1 k) refl
  ]

  -- at the start
  pub none-yet : AreLists key every [] [] [] []
  unfolding first_names
  none-yet = record { names_are = refl; shared_are = refl; lists_are = refl }

  -- with a row of every list
  pub every-more : (names : List (List ℕ)) (shared : List X) (lists : List (List X)) (xs : List X) (x : X) → every x ≡ true → AreLists key every names shared lists xs → AreLists key every names (shared ++ x ∷ []) (with_row_each lists x) (xs ++ x ∷ [])
  every-more names shared lists xs x v a = record {
    names_are =
        let same : filter (λ x. not (every x)) (xs ++ x ∷ []) ≡ filter (λ x. not (every x)) xs = rw (filter-append (λ x. not (every x)) xs (x ∷ []), v) (append-nil (filter (λ x. not (every x)) xs)) in
        a.names_are ∙ ap (λ ys. first_names (map key ys)) (sym same);
    shared_are = rw (filter-append every xs (x ∷ []), v, a.shared_are) refl;
    lists_are = rw (map-each xs x names v, a.lists_are) refl;
  }

  own-named : (xs : List X) (x : X) → every x ≡ false → names_of key every (xs ++ x ∷ []) ≡ names_of key every xs ++ key x ∷ []
  own-named xs x v = rw (filter-append (λ x. not (every x)) xs (x ∷ []), v) (map-append key (filter (λ x. not (every x)) xs) (x ∷ []))

  -- with a row of its own list
  pub own-more : (names : List (List ℕ)) (shared : List X) (lists : List (List X)) (xs : List X) (x : X) → every x ≡ false → AreLists key every names shared lists xs → AreLists key every (with_name names (key x)) shared (with_row names shared lists (key x) x) (xs ++ x ∷ [])
  own-more names shared lists xs x v a = record {
    names_are = ap (λ ns. with_name ns (key x)) a.names_are ∙ sym (ap first_names (own-named xs x v) ∙ first_names-push (names_of key every xs) (key x));
    shared_are =
        let same : filter every (xs ++ x ∷ []) ≡ filter every xs = rw (filter-append every xs (x ∷ []), v) (append-nil (filter every xs)) in
        a.shared_are ∙ sym same;
    lists_are = elim (cases_Bool (list_any (same_text (key x)) names)) [
      | inl e ↦
          let d : AreDistinct names = subst AreDistinct (sym a.names_are) (first_names-distinct (names_of key every xs)) in
          rw (e, map-one xs x names v d e, a.lists_are) refl
      | inr e ↦
          let new : list_any (same_text (key x)) (names_of key every xs) ≡ false = sym (any-first_names (key x) (names_of key every xs)) ∙ ap (list_any (same_text (key x))) (sym a.names_are) ∙ e in
          let mine : of key every (xs ++ x ∷ []) (key x) ≡ of key every xs (key x) ++ x ∷ [] = of-push xs x (key x) (rw (itself (key x)) refl) in
          rw (e, map-append (of key every (xs ++ x ∷ [])) names (key x ∷ []), map-none xs x names v e, mine, of-new xs (key x) new, a.lists_are, a.shared_are) refl
    ];
  }
