-- Lists of references, as the values that they refer to.
use Rattle.std.proofs.Common.{◌≡◌, ℕ, ◌-◌, ◌<◌, ◌≤◌, Bool, true, false, ◌||◌, List, [], ◌∷◌, ◌++◌, map, reverse, length, take, get_or, Option, Some, None, option_map, refl, sym, ap, ◌∙◌, arith}
use Rattle.std.specs.List.{list_any}
use Rattle.std.proofs.lemmas.List.{reverse-append, map-append, length-map, take-map, take_all}
use Rattle.std.proofs.lemmas.List.Folds.{list_any_at}
use Rattle.std.proofs.lemmas.Option.{slice_get-get_or, slice_get-map}
use denote.Ref.{Bor}
use Rattle.etcs_group.specs.Places.{At, pointed}

reverse-map : {X Y : Type 0} (f : X → Y) (xs : List X) → map f (reverse xs) ≡ reverse (map f xs)
reverse-map f [] = refl
reverse-map f (x ∷ xs) =
    ap (map f) (reverse-append (x ∷ []) xs)
    ∙ map-append f (reverse xs) (x ∷ [])
    ∙ ap (λ l. l ++ f x ∷ []) (reverse-map f xs)
    ∙ sym (reverse-append (f x ∷ []) (map f xs))

pub reverse-pointed : {X : Type 0} (xs : List (Bor X)) → pointed (reverse xs) ≡ reverse (pointed xs)
reverse-pointed xs = reverse-map (λ r. r.now) xs

pub length-pointed : {X : Type 0} (xs : List (Bor X)) → length (pointed xs) ≡ length xs
length-pointed xs = length-map xs (λ r. r.now)

-- a range over the places
pub count-pointed : {X : Type 0} (xs : List (Bor X)) → length xs - 0 ≡ length (pointed xs)
count-pointed xs = let e = length-pointed xs in omega arith

pub itself : (o : Option ℕ) → o ≡ option_map (λ n. n) o
itself None = refl
itself (Some n) = refl

pub take-pointed : {X : Type 0} (n : ℕ) (xs : List (Bor X)) → take n (pointed xs) ≡ pointed (take n xs)
take-pointed n xs = take-map (λ r. r.now) n xs

pub at-pointed : {X : Type 0} (xs : List (Bor X)) (i : ℕ) (x : Bor X) → i < length xs → x ≡ get_or xs i x → At (pointed xs) i x.now
at-pointed xs i x lt is = slice_get-map (λ r. r.now) xs i ∙ ap (option_map (λ r. r.now)) (slice_get-get_or xs i x lt ∙ ap Some (sym is))

-- ---- tests

pub list_any-pointed : {X : Type 0} (p : X → Bool) (xs : List (Bor X)) → list_any p (pointed xs) ≡ list_any (λ r. p r.now) xs
list_any-pointed p [] = refl
list_any-pointed p (x ∷ xs) = ap (λ b. p x.now || b) (list_any-pointed p xs)

-- one element settles the test
pub list_any-found : {X : Type 0} (p : X → Bool) (xs : List (Bor X)) (i : ℕ) (x : Bor X) → i < length xs → x ≡ get_or xs i x → p x.now ≡ true → list_any p (pointed xs) ≡ true
list_any-found {X} p xs i x lt is h = list_any-pointed p xs ∙ list_any_at (λ r. p r.now) xs i x lt (ap (λ (r : Bor X). p r.now) (sym is) ∙ h)

-- having looked at all elements settles the test
pub list_any-not_found : {X : Type 0} (p : X → Bool) (xs : List (Bor X)) (i : ℕ) → length xs ≤ i → list_any (λ r. p r.now) (take i xs) ≡ false → list_any p (pointed xs) ≡ false
list_any-not_found p xs i le h = list_any-pointed p xs ∙ ap (list_any (λ r. p r.now)) (sym (take_all i xs le)) ∙ h
