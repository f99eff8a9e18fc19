-- Lists that are made place by place and joined in passing order.
use Rattle.std.proofs.Common.{◌≡◌, ℕ, suc, ◌+◌, Bool, true, false, cond, List, [], ◌∷◌, ◌++◌, reverse, refl, sym, ap, subst, ◌∙◌, arith, add-one}
use Rattle.std.specs.List.{flat_map, enumerate_from}
use Rattle.std.proofs.lemmas.List.{append-nil, reverse-append}
use Rattle.std.proofs.lemmas.List.Concat.{flat_map-append}
use Rattle.etcs_profile.specs.declared.run.Run.{Run}
use Rattle.etcs_profile.specs.declared.run.Run.TheVariants as runs
use Rattle.etcs_telegram.specs.Record.{Telegram}
use Rattle.etcs_group.specs.Places.{At}
use Rattle.etcs_group.specs.Reading.{in_passing_order}
use Rattle.etcs_group.proofs.ReadingLemmas.{kept_from}

-- a piece and the rest, in passing order
abbrev pub joined : {A : Type 0} → Run → List A → List A → List A
joined runs.Nominal piece rest = piece ++ rest
joined runs.Reverse piece rest = rest ++ piece

joined-nil : {A : Type 0} (run : Run) (rest : List A) → joined run [] rest ≡ rest
joined-nil runs.Nominal rest = refl
joined-nil runs.Reverse rest = append-nil rest

-- a function of each element, joined in passing order
abbrev pub joined_by : {X A : Type 0} → Run → (X → List A) → List X → List A
joined_by run f [] = []
joined_by run f (x ∷ xs) = joined run (f x) (joined_by run f xs)

pub joined_by-is : {X A : Type 0} (run : Run) (f : X → List A) (xs : List X) → flat_map f (in_passing_order run xs) ≡ joined_by run f xs
joined_by-is runs.Nominal f [] = refl
joined_by-is runs.Nominal f (x ∷ xs) = ap (λ l. f x ++ l) (joined_by-is runs.Nominal f xs)
joined_by-is runs.Reverse f [] = refl
joined_by-is runs.Reverse f (x ∷ xs) =
    ap (flat_map f) (reverse-append (x ∷ []) xs)
    ∙ flat_map-append f (reverse xs) (x ∷ [])
    ∙ ap (λ l. flat_map f (reverse xs) ++ l) (append-nil (f x))
    ∙ ap (λ l. l ++ f x) (joined_by-is runs.Reverse f xs)

-- a function of each place and telegram from place i on, joined in passing order
abbrev pub passed : {A : Type 0} → Run → (ℕ → Telegram → List A) → ℕ → List Telegram → List A
passed run g i [] = []
passed run g i (t ∷ ts) = joined run (g i t) (passed run g (suc i) ts)

pub passed-is : {A : Type 0} (run : Run) (g : ℕ → Telegram → List A) (i : ℕ) (ts : List Telegram) → joined_by run (λ (e : ℕ × Telegram). g e.0 e.1) (enumerate_from i ts) ≡ passed run g i ts
passed-is run g i [] = refl
passed-is run g i (t ∷ ts) =
    ap (λ n. joined run (g i t) (joined_by run (λ (e : ℕ × Telegram). g e.0 e.1) (enumerate_from n ts))) (add-one i)
    ∙ ap (joined run (g i t)) (passed-is run g (suc i) ts)

pub passed-agree : {A : Type 0} (run : Run) (f g : ℕ → Telegram → List A) (i : ℕ) (ts : List Telegram) → ((k : ℕ) (t : Telegram) → At ts k t → f (i + k) t ≡ g (i + k) t) → passed run f i ts ≡ passed run g i ts
passed-agree run f g i [] h = refl
passed-agree run f g i (t ∷ ts) h =
    let z : i + 0 ≡ i = omega arith in
    let here : f i t ≡ g i t = subst (λ n. f n t ≡ g n t) z (h 0 t refl) in
    ap (λ l. joined run l (passed run f (suc i) ts)) here
    ∙ ap (joined run (g i t)) (passed-agree run f g (suc i) ts (λ k u e. let s : i + suc k ≡ suc i + k = omega arith in subst (λ n. f n u ≡ g n u) s (h (suc k) u e)))

-- what is kept, by its places: f at each place that is not missed
pub passed_kept : {A : Type 0} (run : Run) (f : Telegram → List A) (missed : ℕ → Bool) (i : ℕ) (ts : List Telegram) → joined_by run f (kept_from i missed ts) ≡ passed run (λ b t. cond (missed b) [] (f t)) i ts
passed_kept run f missed i [] = refl
passed_kept run f missed i (t ∷ ts) = go (missed i) (passed_kept run f missed (suc i) ts)
  where
    go : (m : Bool) → joined_by run f (kept_from (suc i) missed ts) ≡ passed run (λ b t. cond (missed b) [] (f t)) (suc i) ts → joined_by run f (cond m (kept_from (suc i) missed ts) (t ∷ kept_from (suc i) missed ts)) ≡ joined run (cond m [] (f t)) (passed run (λ b t. cond (missed b) [] (f t)) (suc i) ts)
    go true ih = ih ∙ sym (joined-nil run _)
    go false ih = ap (joined run (f t)) ih

-- a function of places and elements that ignores the place
pub flat_enumerated : {X A : Type 0} (f : ℕ → X → List A) (g : X → List A) (i : ℕ) (xs : List X) → ((k : ℕ) (x : X) → At xs k x → f (i + k) x ≡ g x) → flat_map (λ (e : ℕ × X). f e.0 e.1) (enumerate_from i xs) ≡ flat_map g xs
flat_enumerated f g i [] h = refl
flat_enumerated {X} f g i (x ∷ xs) h =
    let z : i + 0 ≡ i = omega arith in
    let here : f i x ≡ g x = subst (λ n. f n x ≡ g x) z (h 0 x refl) in
    ap (λ l. l ++ flat_map (λ (e : ℕ × X). f e.0 e.1) (enumerate_from (i + 1) xs)) here
    ∙ ap (λ l. g x ++ l) (flat_enumerated f g (i + 1) xs (λ k y e. let s : i + suc k ≡ i + 1 + k = omega arith in subst (λ n. f n y ≡ g y) s (h (suc k) y e)))
