-- Items that are read one after the other, and passed to a sink.
use Rattle.std.proofs.Common.{◌≡◌, ℕ, ◌+◌, List, [], ◌∷◌, ◌++◌, Result, Ok, Err, refl, ap, sym, subst, ◌∙◌, append_assoc, append-nil}
use Rattle.serde_json.specs.Data.{Data}
use Rattle.etcs_document.proofs.DocumentLemmas.{with_front}
use Rattle.etcs_document.specs.Document.{◌then◌, read_indexed, with_first}
use Rattle.etcs_document.specs.DocumentFault.{DocumentFault}
use Rattle.etcs_document.specs.Taken.{AreTaken, TakesEach}

pub each_more : {S X : Type 0} (Takes : S → X → S → Type 0) (was kept is : S) (xs : List X) (x : X) → TakesEach Takes was xs kept → Takes kept x is → TakesEach Takes was (xs ++ x ∷ []) is
each_more {S = S} Takes was kept is [] x same one = (is, subst (λ (k : S). Takes k x is) (sym same) one, refl)
each_more Takes was kept is (y ∷ ys) x each one = (each.0, each.1, each_more Takes each.0 kept is ys x each.2 one)

module _ {S X : Type 0} (Takes : S → X → S → Type 0) (P Q : List X → Type 0) where
  -- one more was read and taken
  pub and_one : (was kept is : S) (x : X) → AreTaken P Takes was kept → Takes kept x is → ((xs : List X) → P xs → Q (xs ++ x ∷ [])) → AreTaken Q Takes was is
  and_one was kept is x so takes more = record { items = so.items ++ x ∷ []; read = more so.items so.read; takes = each_more Takes was kept is so.items x so.takes takes }

  pub read_as : (was is : S) → AreTaken P Takes was is → ((xs : List X) → P xs → Q xs) → AreTaken Q Takes was is
  read_as was is so means = record { items = so.items; read = means so.items so.read; takes = so.takes }

-- ---- a list that keeps them

all_kept : {S X : Type 0} (kept : S → List X) (was is : S) (xs : List X) → TakesEach (λ old x new. kept new ≡ kept old ++ x ∷ []) was xs is → kept is ≡ kept was ++ xs
all_kept kept was is [] same = ap kept (sym same) ∙ sym (append-nil (kept was))
all_kept kept was is (x ∷ xs) each =
    all_kept kept each.0 is xs each.2 ∙ ap (λ l. l ++ xs) each.1 ∙ append_assoc (kept was) (x ∷ []) xs

pub kept_items : {S X : Type 0} (AreRead : List X → Type 0) (kept : S → List X) (was is : S) → kept was ≡ [] → AreTaken AreRead (λ old x new. kept new ≡ kept old ++ x ∷ []) was is → AreRead (kept is)
kept_items AreRead kept was is none so =
    subst AreRead (sym (all_kept kept was is so.items so.takes ∙ ap (λ l. l ++ so.items) none)) so.read

-- ---- values

front_none : {X : Type 0} (r : Result (List X) DocumentFault) → with_front [] r ≡ r
front_none (Ok xs) = refl
front_none (Err f) = refl

front_more : {X : Type 0} (xs : List X) (x : X) (r : Result (List X) DocumentFault) → with_front xs (with_first x r) ≡ with_front (xs ++ x ∷ []) r
front_more xs x (Ok ys) = ap Ok (sym (append_assoc xs (x ∷ []) ys))
front_more xs x (Err f) = refl

module _ {S X : Type 0} (Takes : S → X → S → Type 0) (read : ℕ → Data → Result X DocumentFault) (whole : Result (List X) DocumentFault) (was : S) where
  -- the values so far are read and taken, and these values are left
  abbrev pub AreReadSoFar : ℕ → List Data → S → Type 0
  AreReadSoFar i left is = AreTaken (λ xs. with_front xs (read_indexed read i left) ≡ whole) Takes was is

  pub none_so_far : (left : List Data) → whole ≡ read_indexed read 0 left → AreReadSoFar 0 left was
  none_so_far left is = record { items = []; read = front_none (read_indexed read 0 left) ∙ sym is; takes = refl }

  pub one_so_far : (i : ℕ) (left more : List Data) (d : Data) (x : X) (kept is : S) → AreReadSoFar i left kept → left ≡ d ∷ more → read i d ≡ Ok x → Takes kept x is → AreReadSoFar (i + 1) more is
  one_so_far i left more d x kept is so next one takes =
      let rest = read_indexed read (i + 1) more in
      let step : read_indexed read i left ≡ with_first x rest = ap (read_indexed read i) next ∙ ap (λ r. r then λ y. with_first y rest) one in
      and_one Takes _ _ was kept is x so takes (λ xs read. sym (front_more xs x rest) ∙ ap (with_front xs) (sym step) ∙ read)

  pub all_so_far : (i : ℕ) (left : List Data) (is : S) → AreReadSoFar i left is → left ≡ [] → AreTaken (λ xs. whole ≡ Ok xs) Takes was is
  all_so_far i left is so none =
      read_as Takes _ _ was is so (λ xs so_far. sym so_far ∙ ap (λ ds. with_front xs (read_indexed read i ds)) none ∙ ap Ok (append-nil xs))
