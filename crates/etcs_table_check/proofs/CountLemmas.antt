-- As many telegrams are read as there are rows, so the groups and their aspects can be made.
use Rattle.std.proofs.Common.{◌≡◌, ◌∙◌, sym, ap, subst, refl, ℕ, suc, ◌<◌, ◌==◌, Bool, true, false, inl, inr, List, [], ◌∷◌, ◌++◌, length, get_or, Result, Ok, Err, Some, arith}
use Rattle.std.proofs.lemmas.Bool.{cases_Bool, eqb-true}
use Rattle.std.proofs.lemmas.List.Folds.{list_all_at}
use Rattle.std.proofs.lemmas.Option.{get_or_from_slice_get, slice_get_within}
use Rattle.std.specs.List.{list_all}
use Rattle.std.specs.Prelude.{IfOk, slice_get}
use Rattle.etcs_group.specs.Controlled.{IsControlled, balise_count}
use Rattle.etcs_telegram.specs.Record.{Telegram}
use Rattle.etcs_table_check.specs.Line.{read_each, with_first}
use Rattle.etcs_table_check.specs.Refusals.{◌then◌}
use Rattle.etcs_table_check.specs.declared.error.TableRefusal.{TableRefusal}

ok_of : {X : Type 0} → List X → Result (List X) TableRefusal → List X
ok_of other (Ok xs) = xs
ok_of other (Err why) = other

-- what holds of the value of a result
pub ok-value : {X E : Type 0} (P : X → Type 0) (r : Result X E) (x : X) → r ≡ Ok x → IfOk r P → P x
ok-value P r x is p = subst (λ s. IfOk s P) is p

one-more : {B : Type 0} (r : Result B TableRefusal) (rest : Result (List B) TableRefusal) (n : ℕ) → ((ys : List B) → rest ≡ Ok ys → length ys ≡ n)
    → (ys : List B) → (r then λ y. with_first y rest) ≡ Ok ys → length ys ≡ suc n
unfolding ok_of
one-more (Err why) rest n h ys is = cc
one-more (Ok y) (Err why) n h ys is = cc
one-more (Ok y) (Ok zs) n h ys is = sym (ap (λ r. length (ok_of ys r)) is) ∙ ap suc (h zs refl)

-- as many are read as there are
pub as-many : {A B : Type 0} (read : A → Result B TableRefusal) (xs : List A) (ys : List B) → read_each read xs ≡ Ok ys → length ys ≡ length xs
unfolding ok_of read_each
as-many read [] ys is = sym (ap (λ r. length (ok_of ys r)) is)
as-many read (x ∷ xs) ys is = one-more (read x) (read_each read xs) (length xs) (as-many read xs) ys is

all-at : {X : Type 0} (p : X → Bool) (xs : List X) (i : ℕ) (x : X) → list_all p xs ≡ true → slice_get xs i ≡ Some x → p x ≡ true
all-at p xs i x all at = elim (cases_Bool (p x)) [
  | inl y ↦ y
  | inr n ↦
      let there : get_or xs i x ≡ x = get_or_from_slice_get xs i x x at in
      let no : list_all p xs ≡ false = list_all_at p xs i x (slice_get_within xs i x at) (ap p there ∙ n) in
      cc
]

pub all-more : {X : Type 0} (p : X → Bool) (xs : List X) (x : X) → list_all p xs ≡ true → p x ≡ true → list_all p (xs ++ x ∷ []) ≡ true
all-more p [] x all is = rw is refl
all-more p (y ∷ xs) x all is = elim (cases_Bool (p y)) [
  | inl z ↦ let more : list_all p xs ≡ true = rw z at all in rw z (all-more p xs x more is)
  | inr z ↦ let no : false ≡ true = rw z at all in cc
]

-- an aspect has this number of telegrams
abbrev pub has_count : ℕ → List Telegram → Bool
has_count n telegrams = length telegrams == n

first-count : (n : ℕ) (aspects : List (List Telegram)) → list_all (has_count n) aspects ≡ true → 0 < length aspects → balise_count aspects ≡ n
first-count n [] all some = absurd (omega (arith, some))
first-count n (first ∷ aspects) all some = elim (cases_Bool (length first == n)) [
  | inl y ↦ eqb-true (length first) n y
  | inr z ↦ let no : false ≡ true = rw z at all in cc
]

pub aspects-controlled : (n : ℕ) (aspects : List (List Telegram)) → list_all (has_count n) aspects ≡ true → 0 < length aspects → 0 < n → IsControlled aspects
aspects-controlled n aspects all some above =
    let first = first-count n aspects all some in
    record {
      some = some;
      balises = omega (arith, first, above);
      counts = λ a group at. eqb-true (length group) n (all-at (has_count n) aspects a group all at) ∙ sym first;
    }
