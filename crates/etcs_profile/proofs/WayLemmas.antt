-- The way to the end mark, as a loop adds it up.
use Rattle.std.proofs.Common.{◌≡◌, ℕ, ◌+◌, ◌*◌, Bool, true, false, List, [], ◌∷◌, ◌++◌, drop, Option, Some, None, refl, sym, ap, ◌∙◌, arith}
use Rattle.std.specs.List.{AllByRecursion, sum_by}
use Rattle.std.proofs.lemmas.List.Sums.{sum_by-cons}
use Rattle.std.proofs.lemmas.List.{drop_more}
use Rattle.etcs_bits.proofs.ListLemmas.{IsItem}
use Rattle.etcs_bits.specs.declared.variables.scale.Scale.{Scale}
use Rattle.etcs_profile.specs.declared.reach.Reach.TheVariants.{Ends, Open}
use Rattle.etcs_profile.specs.Laws.{IsWayToMark}
use Rattle.etcs_profile.specs.Reach.{add_distance, scaled_reach, scale_factor, way_to_mark}

twice : (a b : ℕ) (way : Option ℕ) → add_distance a (add_distance b way) ≡ add_distance (a + b) way
twice a b (Some n) = ap Some (omega arith)
twice a b None = refl

pub way_goes_on : {X : Type 0} (distance : X → ℕ) (marked : X → Bool) (xs : List X) (i : ℕ) (x : X)
    (sum : ℕ) → IsItem xs i x → marked x ≡ false
    → add_distance sum (way_to_mark distance marked (drop i xs))
    ≡ add_distance (sum + distance x) (way_to_mark distance marked (drop (i + 1) xs))
unfolding way_to_mark
way_goes_on distance marked xs i x sum item off =
    rw (drop_more xs i x item.inside, ← item.is, off)
    (twice sum (distance x) (way_to_mark distance marked (drop (i + 1) xs)))

pub way_ends : {X : Type 0} (distance : X → ℕ) (marked : X → Bool) (xs : List X) (i : ℕ) (x : X)
    (sum : ℕ) → IsItem xs i x → marked x ≡ true
    → add_distance sum (way_to_mark distance marked (drop i xs)) ≡ Some (sum + distance x)
unfolding way_to_mark
way_ends distance marked xs i x sum item on =
    rw (drop_more xs i x item.inside, ← item.is, on) refl

pub way_first : {X : Type 0} (distance : X → ℕ) (marked : X → Bool) (x : X) (xs : List X)
    → marked x ≡ true → way_to_mark distance marked (x ∷ xs) ≡ Some (distance x)
unfolding way_to_mark
way_first distance marked x xs on = rw on refl

pub way_further : {X : Type 0} (distance : X → ℕ) (marked : X → Bool) (x : X) (xs : List X)
    → marked x ≡ false
    → way_to_mark distance marked (x ∷ xs) ≡ add_distance (distance x) (way_to_mark distance marked xs)
unfolding way_to_mark
way_further distance marked x xs off = rw off refl

-- ---- the law of the reach

-- a way that goes on behind a distance
longer : (a way : ℕ) (o : Option ℕ) → add_distance a o ≡ Some way → (m : ℕ) × (o ≡ Some m) × (way ≡ a + m)
longer a way (Some m) is = let same : a + m ≡ way = cc in (m, refl, sym same)
longer a way None is = absurd cc

way_step : {X : Type 0} (distance : X → ℕ) (marked : X → Bool) (x : X) (xs : List X) (way : ℕ) (b : Bool)
    → marked x ≡ b → ((m : ℕ) → way_to_mark distance marked xs ≡ Some m → IsWayToMark distance marked xs m)
    → way_to_mark distance marked (x ∷ xs) ≡ Some way → IsWayToMark distance marked (x ∷ xs) way
way_step distance marked x xs way true on rest is =
    let same = sym (way_first distance marked x xs on) ∙ is in
    let d : distance x ≡ way = cc (same) in
    record { before = []; first = x; after = xs; are = refl; unmarked = tt; mark = on; sum = omega (arith, d) }
way_step {X = X} distance marked x xs way false off rest is =
    let more = longer (distance x) way (way_to_mark distance marked xs) (sym (way_further distance marked x xs off) ∙ is) in
    let w = rest more.0 more.1 in
    record {
      before = x ∷ w.before;
      first = w.first;
      after = w.after;
      are = ap (λ (ys : List X). x ∷ ys) w.are;
      unmarked = (off, w.unmarked);
      mark = w.mark;
      sum = omega (arith, more.2, w.sum, sum_by-cons distance x w.before);
    }

no_way_there : {X : Type 0} {P : Type 0} (distance : X → ℕ) (marked : X → Bool) (way : ℕ)
    → way_to_mark distance marked [] ≡ Some way → P
unfolding way_to_mark
no_way_there distance marked way is = absurd cc

-- a way is that to the first mark
pub way_is : {X : Type 0} (distance : X → ℕ) (marked : X → Bool) (xs : List X) (way : ℕ)
    → way_to_mark distance marked xs ≡ Some way → IsWayToMark distance marked xs way
way_is distance marked [] way is = no_way_there distance marked way is
way_is distance marked (x ∷ xs) way is =
    way_step distance marked x xs way (marked x) refl (λ m e. way_is distance marked xs m e) is

-- the way to a first mark
marked_way : {X : Type 0} (distance : X → ℕ) (marked : X → Bool) (before after : List X) (x : X)
    → AllByRecursion (λ y. marked y ≡ false) before → marked x ≡ true
    → way_to_mark distance marked (before ++ x ∷ after) ≡ Some (sum_by distance before + distance x)
marked_way distance marked [] after x off on =
    let alone : distance x ≡ sum_by distance [] + distance x = omega arith in
    way_first distance marked x after on ∙ ap Some alone
marked_way distance marked (y ∷ before) after x off on =
    let more : distance y + (sum_by distance before + distance x) ≡ sum_by distance (y ∷ before) + distance x =
    omega (arith, sum_by-cons distance y before) in
    way_further distance marked y (before ++ x ∷ after) off.0
    ∙ ap (add_distance (distance y)) (marked_way distance marked before after x off.1 on)
    ∙ ap Some more

pub way_of : {X : Type 0} (distance : X → ℕ) (marked : X → Bool) (xs : List X) (way : ℕ)
    → IsWayToMark distance marked xs way → way_to_mark distance marked xs ≡ Some way
way_of distance marked xs way w =
    ap (way_to_mark distance marked) w.are ∙ marked_way distance marked w.before w.after w.first w.unmarked w.mark
    ∙ ap Some (sym w.sum)

shorter : (a : ℕ) (o : Option ℕ) → add_distance a o ≡ None → o ≡ None
shorter a (Some m) is = absurd cc
shorter a None is = refl

none_step : {X : Type 0} (distance : X → ℕ) (marked : X → Bool) (x : X) (xs : List X) (b : Bool)
    → marked x ≡ b → (way_to_mark distance marked xs ≡ None → AllByRecursion (λ y. marked y ≡ false) xs)
    → way_to_mark distance marked (x ∷ xs) ≡ None → AllByRecursion (λ y. marked y ≡ false) (x ∷ xs)
none_step distance marked x xs true on rest is =
    let both = sym (way_first distance marked x xs on) ∙ is in absurd cc
none_step distance marked x xs false off rest is =
    (off, rest (shorter (distance x) (way_to_mark distance marked xs) (sym (way_further distance marked x xs off) ∙ is)))

-- no way where nothing is marked
pub no_way_is : {X : Type 0} (distance : X → ℕ) (marked : X → Bool) (xs : List X)
    → way_to_mark distance marked xs ≡ None → AllByRecursion (λ x. marked x ≡ false) xs
no_way_is distance marked [] is = tt
no_way_is distance marked (x ∷ xs) is =
    none_step distance marked x xs (marked x) refl (λ e. no_way_is distance marked xs e) is

pub no_way : {X : Type 0} (distance : X → ℕ) (marked : X → Bool) (xs : List X)
    → AllByRecursion (λ x. marked x ≡ false) xs → way_to_mark distance marked xs ≡ None
unfolding way_to_mark
no_way distance marked [] off = refl
no_way distance marked (x ∷ xs) off =
    way_further distance marked x xs off.0 ∙ ap (add_distance (distance x)) (no_way distance marked xs off.1)

-- a reach is that of a way
pub reach_ends : (scale : Scale) (o : Option ℕ) (n : ℕ) → scaled_reach scale o ≡ Ends n
    → (way : ℕ) × (o ≡ Some way) × (n ≡ scale_factor scale * way)
reach_ends scale (Some way) n is = let same : scale_factor scale * way ≡ n = cc in (way, refl, sym same)
reach_ends scale None n is = absurd cc

pub reach_open : (scale : Scale) (o : Option ℕ) → scaled_reach scale o ≡ Open → o ≡ None
reach_open scale (Some way) is = absurd cc
reach_open scale None is = refl
