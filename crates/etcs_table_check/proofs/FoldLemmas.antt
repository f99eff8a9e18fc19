-- Steps of loops that fold a list, and the lists of references that they go over.
use Rattle.std.proofs.Common.{◌≡◌, ℕ, ◌+◌, ◌<◌, List, [], ◌∷◌, ◌++◌, take, drop, get_or, length, sym, ap, ◌∙◌}
use Rattle.std.proofs.lemmas.List.{drop_more}
use Rattle.std.specs.List.{fold}
use Rattle.etcs_table.proofs.LoopLemmas.{fold_push}

-- what is left begins with the element of this step
pub begins : {X : Type 0} (xs : List X) (i : ℕ) (x : X) → i < length xs → x ≡ get_or xs i x → drop i xs ≡ x ∷ drop (i + 1) xs
begins xs i x lt is = drop_more xs i x lt ∙ ap (λ y. y ∷ drop (i + 1) xs) (sym is)

pub fold-more : {X Y : Type 0} (f : Y → X → Y) (a : Y) (xs : List X) (done : Y) (i : ℕ) (x : X) → take (i + 1) xs ≡ take i xs ++ x ∷ [] → done ≡ fold f a (take i xs) → f done x ≡ fold f a (take (i + 1) xs)
fold-more f a xs done i x t inv = ap (λ d. f d x) inv ∙ sym (ap (fold f a) t ∙ fold_push f a (take i xs) x)
