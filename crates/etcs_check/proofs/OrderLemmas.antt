-- Lists in strict order: their members determine them, and they are made of blocks, one after another.
use Rattle.std.proofs.Common.{◌≡◌, ℕ, zero, suc, ◌+◌, ◌<◌, ◌≤◌, Bool, true, false, cond, List, [], ◌∷◌, ◌++◌, length, map, refl, sym, ap, ap₂, subst, ◌∙◌, arith}
use Rattle.std.specs.List.{filter, flat_map, enumerate_from, range_with_len}
use Rattle.std.specs.Ordering.{nat_cmp, ordering_then, ordering_reverse, is_lt}
use Rattle.std.specs.Cmp.{nat_cmp_is}
use Rattle.std.specs.Cmp.Lexicographic.{slice_cmp}
use Rattle.std.specs.declared.cmp.Ordering.TheVariants.{Less}
use Rattle.std.proofs.lemmas.Bool.{both_ways}
use Rattle.std.proofs.lemmas.Cmp.{nat_cmp_total, nat_list_cmp_total, tied_itself}
use Rattle.std.proofs.lemmas.List.{append_assoc}
use Rattle.std.proofs.lemmas.Option.{none-some, same_Some, slice_get_within}
use mathlib.Core.Logic.{inl, inr}
use Rattle.etcs_group.specs.Places.{At}
use Rattle.etcs_check.proofs.MemberLemmas.{At-append_cases, enumerate-at, filter-at}

-- ---- numbers decide

-- the first number that differs decides
less_after : (p : List ℕ) (m n : ℕ) (r s : List ℕ) → m < n → slice_cmp nat_cmp (p ++ m ∷ r) (p ++ n ∷ s) ≡ Less
less_after [] m n r s lt = ap (λ o. ordering_then o (slice_cmp nat_cmp r s)) (sym (nat_cmp_is m n Less lt))
less_after (k ∷ p) m n r s lt =
    ap (λ o. ordering_then o (slice_cmp nat_cmp (p ++ m ∷ r) (p ++ n ∷ s))) (tied_itself nat_cmp_total k) ∙ less_after p m n r s lt

-- no list is below another that is below it
not_both : (p q : List ℕ) → slice_cmp nat_cmp p q ≡ Less → slice_cmp nat_cmp q p ≡ Less → ⊥
not_both p q below above =
    both_ways (is_lt (slice_cmp nat_cmp p q)) (ap is_lt (nat_list_cmp_total.antisymm p q ∙ ap ordering_reverse above)) (ap is_lt below)

module _ {X : Type 0} (order : X → List ℕ) where
  abbrev pub AreOrdered : List X → Type 0
  AreOrdered xs = (i j : ℕ) (x y : X) → i < j → At xs i x → At xs j y → slice_cmp nat_cmp (order x) (order y) ≡ Less

  -- ---- members determine a list

  ordered_rest : (x : X) (xs : List X) → AreOrdered (x ∷ xs) → AreOrdered xs
  ordered_rest x xs ordered i j y z lt at at' = ordered (suc i) (suc j) y z (omega arith) at at'

  same_first : (x y : X) (xs ys : List X) → AreOrdered (x ∷ xs) → AreOrdered (y ∷ ys) → (j : ℕ) → At (y ∷ ys) j x → (i : ℕ) → At (x ∷ xs) i y → x ≡ y
  same_first x y xs ys first second zero h i g = sym (same_Some y x h)
  same_first x y xs ys first second (suc j) h zero g = same_Some x y g
  same_first x y xs ys first second (suc j) h (suc i) g =
      absurd (not_both (order x) (order y) (first 0 (suc i) x y (omega arith) refl g) (second 0 (suc j) y x (omega arith) refl h))

  -- the elements after the first in one list are in the other list after its first
  rest_at : (x y : X) (xs ys : List X) → AreOrdered (x ∷ xs) → x ≡ y → (i : ℕ) (z : X) → At xs i z → (j : ℕ) → At (y ∷ ys) j z → (k : ℕ) × At ys k z
  rest_at x y xs ys ordered e i z at (suc j) h = (j, h)
  rest_at x y xs ys ordered e i z at zero h =
      let below = subst (λ w. slice_cmp nat_cmp (order x) (order w) ≡ Less) (sym (e ∙ same_Some y z h)) (ordered 0 (suc i) x z (omega arith) refl at) in
      absurd (not_both (order x) (order x) below below)

  -- two ordered lists with the same members are equal
  pub one_list : (xs ys : List X) → AreOrdered xs → AreOrdered ys → ((i : ℕ) (x : X) → At xs i x → (j : ℕ) × At ys j x) → ((j : ℕ) (y : X) → At ys j y → (i : ℕ) × At xs i y) → xs ≡ ys
  one_list [] [] first second into back = refl
  one_list [] (y ∷ ys) first second into back = absurd (none-some y (back 0 y refl).1)
  one_list (x ∷ xs) [] first second into back = absurd (none-some x (into 0 x refl).1)
  one_list (x ∷ xs) (y ∷ ys) first second into back =
      let there = into 0 x refl in
      let here = back 0 y refl in
      let e = same_first x y xs ys first second there.0 there.1 here.0 here.1 in
      ap₂ ◌∷◌ e (one_list xs ys (ordered_rest x xs first) (ordered_rest y ys second)
      (λ i z at. let r = into (suc i) z at in rest_at x y xs ys first e i z at r.0 r.1)
      (λ j z at. let r = back (suc j) z at in rest_at y x ys xs second (sym e) j z at r.0 r.1))

  -- ---- blocks

  -- The list is ordered, and the order of each member begins with these numbers and then one from low up to
  -- high.
  pub record IsBlock (p : List ℕ) (low high : ℕ) (xs : List X) : Type 0 where
    pub begins : (i : ℕ) (x : X) → At xs i x → (n : ℕ) × (rest : List ℕ) × (low ≤ n) × (n < high) × (order x ≡ p ++ n ∷ rest)
    pub ordered : AreOrdered xs

  pub no_block : (p : List ℕ) (low high : ℕ) → IsBlock p low high []
  no_block p low high = record { begins = λ i x at. absurd (none-some x at); ordered = λ i j x y lt at. absurd (none-some x at) }

  one_begins : (p : List ℕ) (n : ℕ) (rest : List ℕ) (x : X) → order x ≡ p ++ n ∷ rest → (i : ℕ) (y : X) → At (x ∷ []) i y → (m : ℕ) × (rest : List ℕ) × (n ≤ m) × (m < suc n) × (order y ≡ p ++ m ∷ rest)
  one_begins p n rest x is zero y at = (n, rest, omega arith, omega arith, ap order (sym (same_Some x y at)) ∙ is)
  one_begins p n rest x is (suc i) y at = absurd (none-some y at)

  one_ordered : (x : X) → AreOrdered (x ∷ [])
  one_ordered x i zero y z lt at at' = absurd (omega arith)
  one_ordered x i (suc j) y z lt at at' = absurd (none-some z at')

  -- one member
  pub one_block : (p : List ℕ) (n m : ℕ) (rest : List ℕ) (x : X) → m ≡ n → order x ≡ p ++ m ∷ rest → IsBlock p n (suc n) (x ∷ [])
  one_block p n m rest x e is = record { begins = one_begins p n rest x (is ∙ ap (λ k. p ++ k ∷ rest) e); ordered = one_ordered x }

  -- one block after another
  pub joined : (p : List ℕ) {low mid high : ℕ} {xs ys : List X} → low ≤ mid → mid ≤ high → IsBlock p low mid xs → IsBlock p mid high ys → IsBlock p low high (xs ++ ys)
  joined p {xs = xs} {ys = ys} le le' first second = record {
    begins = λ i x at. elim (At-append_cases xs ys i x at) [
      | inl h ↦ let b = first.begins i x h in let lt = b.3 in (b.0, b.1, b.2, omega arith, b.4)
      | inr h ↦ let b = second.begins h.0 x h.1 in let ge = b.2 in (b.0, b.1, omega arith, b.3, b.4)
    ];
    ordered = λ i j x y lt at at'. elim (At-append_cases xs ys i x at) [
      | inl h ↦ elim (At-append_cases xs ys j y at') [
        | inl g ↦ first.ordered i j x y lt h g
        | inr g ↦
            let b = first.begins i x h in
            let c = second.begins g.0 y g.1 in
            let below = b.3 in
            let above = c.2 in
            ap₂ (slice_cmp nat_cmp) b.4 c.4 ∙ less_after p b.0 c.0 b.1 c.1 (omega arith)
      ]
      | inr h ↦ elim (At-append_cases xs ys j y at') [
        | inl g ↦
            let w = slice_get_within xs j y g in
            let e = h.2 in
            absurd (omega arith)
        | inr g ↦
            let e = h.2 in
            let f = g.2 in
            second.ordered h.0 g.0 x y (omega arith) h.1 g.1
      ]
    ];
  }

  -- a block seen from the number before its own
  pub under : (p : List ℕ) (n m : ℕ) {low high : ℕ} {xs : List X} → m ≡ n → IsBlock (p ++ m ∷ []) low high xs → IsBlock p n (suc n) xs
  under p n m e block = record {
    begins = λ i x at.
        let b = block.begins i x at in
        (n, b.0 ∷ b.1, omega arith, omega arith, b.4 ∙ append_assoc p (m ∷ []) (b.0 ∷ b.1) ∙ ap (λ k. p ++ k ∷ b.0 ∷ b.1) e);
    ordered = block.ordered;
  }

  -- the blocks of items, whose numbers rise one by one
  pub blocks : {Y : Type 0} (p : List ℕ) (f : Y → List X) (ys : List Y) (low : ℕ) → ((i n : ℕ) (y : Y) → n ≡ low + i → At ys i y → IsBlock p n (suc n) (f y)) → IsBlock p low (low + length ys) (flat_map f ys)
  blocks p f [] low each = no_block p low (low + 0)
  blocks p f (y ∷ ys) low each =
      let rest = blocks p f ys (suc low) (λ i n z e at. each (suc i) n z (omega arith) at) in
      let high : suc low + length ys ≡ low + length (y ∷ ys) = omega arith in
      joined p (omega arith) (omega arith) (each 0 low y (omega arith) refl) (subst (λ h. IsBlock p (suc low) h (flat_map f ys)) high rest)

  pub each_block : {Y : Type 0} (p : List ℕ) (g : ℕ → Y → List X) (ys : List Y) (low : ℕ) → ((i n : ℕ) (y : Y) → n ≡ low + i → At ys i y → IsBlock p n (suc n) (g i y)) → IsBlock p low (low + length (enumerate_from 0 ys)) (flat_map (λ e. g e.0 e.1) (enumerate_from 0 ys))
  each_block {Y} p g ys low each = blocks p (λ (e : ℕ × Y). g e.0 e.1) (enumerate_from 0 ys) low (λ i n e is at.
      let r = enumerate-at 0 ys i e at in
      let k = r.0 in
      let same : i ≡ e.0 = omega arith in
      each e.0 n e.1 (omega arith) (subst (λ j. At ys j e.1) same r.1))

-- numbers that rise one by one
pub rising : {Y : Type 0} (number : Y → ℕ) (ys : List Y) (low : ℕ) → map number ys ≡ range_with_len low (length ys) → (i : ℕ) (y : Y) → At ys i y → number y ≡ low + i
rising number [] low e i y at = absurd (none-some y at)
rising number (z ∷ ys) low e zero y at =
    let first : number z ≡ low = cc in
    let same : low ≡ low + 0 = omega arith in
    ap number (sym (same_Some z y at)) ∙ first ∙ same
rising number (z ∷ ys) low e (suc i) y at =
    let rest : map number ys ≡ range_with_len (low + 1) (length ys) = cc in
    let r = rising number ys (low + 1) rest i y at in
    omega arith

-- what is left of a list in order is in order
module _ {X : Type 0} (order : X → List ℕ) (test : X → Bool) where
  first_below : (x : X) (xs : List X) → AreOrdered order (x ∷ xs) → (j : ℕ) (y : X) → At (filter test xs) j y → slice_cmp nat_cmp (order x) (order y) ≡ Less
  first_below x xs ordered j y at = let r = filter-at test xs j y at in ordered 0 (suc r.0) x y (omega arith) refl r.1

  pub AreOrdered-filter : (xs : List X) → AreOrdered order xs → AreOrdered order (filter test xs)
  AreOrdered-filter [] ordered = λ i j x y lt at at'. absurd (none-some x at)
  AreOrdered-filter (z ∷ zs) ordered = go (test z) (AreOrdered-filter zs (λ i j x y lt at at'. ordered (suc i) (suc j) x y (omega arith) at at'))
    where
      go : (b : Bool) → AreOrdered order (filter test zs) → AreOrdered order (cond b (z ∷ filter test zs) (filter test zs))
      go false rest = rest
      go true rest = kept rest
        where
          kept : AreOrdered order (filter test zs) → (i j : ℕ) (x y : X) → i < j → At (z ∷ filter test zs) i x → At (z ∷ filter test zs) j y → slice_cmp nat_cmp (order x) (order y) ≡ Less
          kept rest i zero x y lt at at' = absurd (omega arith)
          kept rest zero (suc j) x y lt at at' = subst (λ w. slice_cmp nat_cmp (order w) (order y) ≡ Less) (same_Some z x at) (first_below z zs ordered j y at')
          kept rest (suc i) (suc j) x y lt at at' = rest i j x y (omega arith) at at'
