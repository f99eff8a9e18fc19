-- Vectors that are computed lane by lane from one vector.
use Rattle.std.proofs.Common.{◌≡◌, ℕ, ◌<◌, cond, List, [], ◌∷◌, map, length, replicate, refl, ap, ap₂, ◌∙◌, w8, Fits}
use Rattle.std.proofs.lemmas.List.{length-map}
use Rattle.std.proofs.lemmas.Simd.{zip2_splat, map-map}
use Rattle.std.specs.Simd.Lanes.{zip2, sel_l, top, Each1}

-- an operator with the same number in each lane
pub splat : (h : ℕ → ℕ → ℕ) (f : ℕ → ℕ) (y n : ℕ) (v : List ℕ) {a : List ℕ} → length v ≡ n → a ≡ map f v
    → zip2 h a (replicate n y) ≡ map (λ x. h (f x) y) v
splat h f y n v long p =
    ap (λ a. zip2 h a (replicate n y)) p ∙ zip2_splat h (map f v) n y (length-map v f ∙ long) ∙ map-map (λ x. h x y) f v

choose-map : (m f g : ℕ → ℕ) (v : List ℕ)
    → sel_l (map (top 7) (map m v)) (map f v) (map g v) ≡ map (λ x. cond (top 7 (m x)) (f x) (g x)) v
choose-map m f g [] = refl
choose-map m f g (x ∷ xs) = ap (λ r. cond (top 7 (m x)) (f x) (g x) ∷ r) (choose-map m f g xs)

-- one of two vectors in each lane
pub choose : (m f g : ℕ → ℕ) (v : List ℕ) {a b c : List ℕ} → a ≡ map m v → b ≡ map f v → c ≡ map g v
    → sel_l (map (top 7) a) b c ≡ map (λ x. cond (top 7 (m x)) (f x) (g x)) v
choose m f g v p q r = (λ i. sel_l (map (top 7) (p i)) (q i) (r i)) ∙ choose-map m f g v

-- functions of bytes that agree
pub same_lanes : (f g : ℕ → ℕ) (v : List ℕ) → ((x : ℕ) → x < 256 → f x ≡ g x) → Each1 (Fits w8) v → map f v ≡ map g v
same_lanes f g [] all fits = refl
same_lanes f g (x ∷ xs) all fits = ap₂ (λ a b. a ∷ b) (all x fits.0.fits) (same_lanes f g xs all fits.1)
