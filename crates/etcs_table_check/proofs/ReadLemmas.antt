-- Reading the members of a list one after the other, up to the first that is refused.
use Rattle.std.proofs.Common.{◌≡◌, ℕ, ◌+◌, List, [], ◌∷◌, ◌++◌, drop, Option, None, Result, Ok, Err, refl, sym, ap, subst, ◌∙◌, append_assoc}
use Rattle.std.proofs.lemmas.List.{append-nil}
use Rattle.std.specs.Prelude.{IsOkAnd}
use Rattle.etcs_check.specs.LineChecker.{CheckerState, HasChecked}
use Rattle.etcs_group.specs.Group.{Aspects}
use Rattle.etcs_table.specs.Entries.{Entry}
use Rattle.etcs_table_check.specs.Line.{IsCheckedAs, first_refusal, read_each, telegram_of, with_first}
use Rattle.etcs_table_check.specs.Refusals.{FailsAs, IsFirst}
use Rattle.etcs_table_check.specs.declared.error.CheckTableError.{CheckTableError}
use Rattle.etcs_table_check.specs.declared.error.CheckTableError.TheVariants as errors
use Rattle.etcs_table_check.specs.declared.error.TableRefusal.{TableRefusal}
use Rattle.etcs_telegram.specs.Record.{Telegram}

-- ---- the first row that is refused

pub refused-found : (es : List Entry) (i : ℕ) (e : Entry) (error : CheckTableError) (all : Option TableRefusal) → drop i es ≡ e ∷ drop (i + 1) es → FailsAs error (telegram_of e) → first_refusal (drop i es) ≡ all → IsFirst all error
unfolding first_refusal
refused-found es i e errors.Memory all d fails inv = tt
refused-found es i e (errors.Refused why) all d fails inv = sym (rw (d, fails) at inv)

pub refused-passed : (es : List Entry) (i : ℕ) (e : Entry) (t : Telegram) (all : Option TableRefusal) → drop i es ≡ e ∷ drop (i + 1) es → telegram_of e ≡ Ok t → first_refusal (drop i es) ≡ all → first_refusal (drop (i + 1) es) ≡ all
unfolding first_refusal
refused-passed es i e t all d is inv = rw (d, is) at inv

pub refused-ended : (es : List Entry) (i : ℕ) (all : Option TableRefusal) → drop i es ≡ [] → first_refusal (drop i es) ≡ all → all ≡ None
unfolding first_refusal
refused-ended es i all d inv = sym (rw d at inv)

-- ---- what is read of each

-- what was read, and then what is read
abbrev pub with_front : {A : Type 0} → List A → Result (List A) TableRefusal → Result (List A) TableRefusal
with_front front (Ok xs) = Ok (front ++ xs)
with_front front (Err why) = Err why

pub none-yet : {A : Type 0} (r : Result (List A) TableRefusal) → with_front [] r ≡ r
none-yet (Ok xs) = refl
none-yet (Err why) = refl

one-more : {A : Type 0} (front : List A) (y : A) (r : Result (List A) TableRefusal) → with_front front (with_first y r) ≡ with_front (front ++ y ∷ []) r
one-more front y (Ok xs) = ap Ok (sym (append_assoc front (y ∷ []) xs))
one-more front y (Err why) = refl

module _ {A B : Type 0} (read : A → Result B TableRefusal) (xs : List A) (front : List B) (i : ℕ) (all : Result (List B) TableRefusal) where
  pub read-more : (x : A) (y : B) → drop i xs ≡ x ∷ drop (i + 1) xs → read x ≡ Ok y → with_front front (read_each read (drop i xs)) ≡ all → with_front (front ++ y ∷ []) (read_each read (drop (i + 1) xs)) ≡ all
  unfolding read_each
  read-more x y d is inv = sym (one-more front y (read_each read (drop (i + 1) xs))) ∙ (rw (d, is) at inv)

  pub read-fails : (x : A) (error : CheckTableError) → drop i xs ≡ x ∷ drop (i + 1) xs → FailsAs error (read x) → with_front front (read_each read (drop i xs)) ≡ all → FailsAs error all
  unfolding read_each
  read-fails x errors.Memory d fails inv = tt
  read-fails x (errors.Refused why) d fails inv = sym (rw (d, fails) at inv)

  pub read-ended : drop i xs ≡ [] → with_front front (read_each read (drop i xs)) ≡ all → all ≡ Ok front
  unfolding read_each
  read-ended d inv = sym (rw d at inv) ∙ ap Ok (append-nil front)

-- ---- groups that a checker takes

-- a checker has taken the groups that were read, and what is left gives all
pub record HasTaken (checker : CheckerState) (left all : Result (List Aspects) TableRefusal) : Type 0 where
  pub done : List Aspects
  pub checked : HasChecked checker done []
  pub whole : with_front done left ≡ all

pub all-taken : (checker : CheckerState) (done : List Aspects) (all : Result (List Aspects) TableRefusal) → all ≡ Ok done → HasChecked checker done [] → IsCheckedAs checker all
all-taken checker done all is checked = subst (λ r. IsOkAnd r (λ groups. HasChecked checker groups [])) (sym is) checked
