-- The facts about headers, duplicate flags and counters, and the parts of soundness that they break.
use Rattle.std.proofs.Common.{◌≡◌, ◌≢◌, ℕ, zero, suc, ◌+◌, ◌<◌, ◌≤◌, true, false, cond, eqb, ltb, List, [], ◌∷◌, length, Option, Some, None, refl, sym, ap, subst, ◌∙◌, arith, IsSome}
use Rattle.std.specs.Bool.{beq}
use Rattle.std.specs.Cmp.{booleans_Decides}
use Rattle.std.proofs.lemmas.Option.{none-some, same_Some, slice_get_within}
use Rattle.std.proofs.lemmas.Bool.{eqb-true, eq-eqb, eqb-false, ne_eqb, lt-ltb, le-ltb, both_ways, cases_lt, and_parts, and_from, and_cases, and_left, and_right, not-false, not_from_true}
use mathlib.Core.Logic.{◌⊎◌, inl, inr}
use Rattle.etcs_bits.specs.declared.variables.duplicate.Dup.{Dup}
use Rattle.etcs_bits.specs.declared.variables.duplicate.Dup.TheVariants as dups
use Rattle.etcs_bits.specs.variables.Variables.{version_number}
use Rattle.etcs_telegram.specs.Record.{Telegram}
use Rattle.etcs_group.specs.Places.{At}
use Rattle.etcs_group.specs.Group.{named_neighbour, partner_place, AreAlike}
use Rattle.etcs_group.proofs.PlaceLemmas.{one_at}
use Rattle.etcs_group.proofs.MarkLemmas.{partner-says, partner-is}
use Rattle.etcs_check.specs.Duplicates.{same_identity}
use Rattle.etcs_check.specs.Findings.{header_differs, is_outside, is_other, is_unanswered, first_counter, counter_differs}
use Rattle.etcs_check.proofs.FactLemmas.{each_of}
use Rattle.etcs_check.proofs.NumberLemmas.{Decides-version, Decides-same_identity}
use Rattle.etcs_check.specs.Violation.{IsFirstCounted}

-- ---- equal headers

pub alike-says : (t first : Telegram) → header_differs (Some first) t ≡ false → AreAlike t first
alike-says t first h =
    let p = and_parts (eqb (version_number t.header.version) (version_number first.header.version)) _ (not-false _ h) in
    let q = and_parts (same_identity t.header.identity first.header.identity) (beq t.header.linked first.header.linked) p.1 in
    record {
      version = (Decides-version _ _).0 p.0;
      identity = (Decides-same_identity _ _).0 q.0;
      linked = (booleans_Decides t.header.linked first.header.linked).0 q.1;
    }

pub alike-is : (t first : Telegram) → AreAlike t first → header_differs (Some first) t ≡ false
alike-is t first a =
    not_from_true _ (and_from _ _ (eq-eqb _ _ (ap version_number a.version))
    (and_from _ _ ((Decides-same_identity _ _).1 a.identity) ((booleans_Decides t.header.linked first.header.linked).1 a.linked)))

-- ---- duplicate flags

is_other-false : (o : Option ℕ) (b : ℕ) → is_other o b ≡ false → o ≡ Some b
is_other-false None b h = cc
is_other-false (Some q) b h = ap Some (eqb-true q b (not-false _ h))

other-is_false : (o : Option ℕ) (b : ℕ) → o ≡ Some b → is_other o b ≡ false
other-is_false o b e = rw e (not_from_true _ (eq-eqb b b refl))

-- a duplicate flag that is not outside has a partner
pub inside-says : (group : List Telegram) (b : ℕ) (t : Telegram) → At group b t → is_outside (length group) t.header.dup b ≡ false → t.header.dup ≢ dups.Single → IsSome (partner_place group b)
inside-says group b t at inside marked = go t.header.dup refl b at inside
  where
    some : (b q : ℕ) → partner_place group b ≡ Some q → IsSome (partner_place group b)
    some b q e = rw e refl

    go : (m : Dup) → t.header.dup ≡ m → (b : ℕ) → At group b t → is_outside (length group) m b ≡ false → IsSome (partner_place group b)
    go dups.Single e b at h = absurd (marked e)
    go dups.Next e b at h =
        let w = slice_get_within group b t at in
        let n = eqb-false _ _ h in
        some b (b + 1) (partner-is group b (b + 1) t at (ap (λ m. named_neighbour m b) e) (omega arith))
    go dups.Previous e zero at h = absurd (both_ways true h refl)
    go dups.Previous e (suc a) at h =
        let w = slice_get_within group (suc a) t at in
        some (suc a) a (partner-is group (suc a) a t at (ap (λ m. named_neighbour m (suc a)) e) (omega arith))

-- a duplicate flag that is answered names a balise that names this one
pub answered-says : (group : List Telegram) (b : ℕ) → ((t : Telegram) → At group b t → is_unanswered group (partner_place group b) b ≡ false) → (q : ℕ) → partner_place group b ≡ Some q → partner_place group q ≡ Some b
answered-says group b answered q e =
    let r = partner-says group b q e in
    let h : is_unanswered group (Some q) b ≡ false = ap (λ o. is_unanswered group o b) (sym e) ∙ answered r.0 r.1 in
    is_other-false (partner_place group q) b h

-- a counter below 254 that does not differ is the first one
pub counter-says : (group : List Telegram) (t : Telegram) → counter_differs group t ≡ false → t.header.counter < 254 → first_counter group ≡ Some t.header.counter
counter-says group t one lt = elim (and_cases (ltb t.header.counter 254) (is_other (first_counter group) t.header.counter) one) [
  | inl no' ↦ absurd (both_ways _ no' (lt-ltb _ _ lt))
  | inr same ↦ is_other-false (first_counter group) t.header.counter same
]

-- ---- no fact if the part holds

-- a duplicate flag with a partner is not outside
pub inside-is : (group : List Telegram) (b : ℕ) (t : Telegram) → At group b t → (t.header.dup ≢ dups.Single → IsSome (partner_place group b)) → is_outside (length group) t.header.dup b ≡ false
inside-is group b t at has = go t.header.dup refl has
  where
    named : IsSome (partner_place group b) → (q : ℕ) × (named_neighbour t.header.dup b ≡ Some q) × (q < length group)
    named = each_of (partner_place group b) (λ o. IsSome o → (q : ℕ) × (named_neighbour t.header.dup b ≡ Some q) × (q < length group)) (λ h. absurd (both_ways false refl h)) (λ q e _.
        let r = partner-says group b q e in
        (q, subst (λ (x : Telegram). named_neighbour x.header.dup b ≡ Some q) (one_at group b r.0 t r.1 at) r.2, r.3))

    first : (b q : ℕ) → named_neighbour dups.Previous b ≡ Some q → eqb b 0 ≡ false
    first zero q e = absurd (none-some q e)
    first (suc a) q e = let n : suc a ≢ 0 = omega arith in ne_eqb (suc a) 0 n

    go : (m : Dup) → t.header.dup ≡ m → (t.header.dup ≢ dups.Single → IsSome (partner_place group b)) → is_outside (length group) m b ≡ false
    go dups.Single e has = refl
    go dups.Next e has =
        let n = named (has (λ f. let g : dups.Next ≡ dups.Single = sym e ∙ f in cc)) in
        let s = same_Some (b + 1) n.0 (sym (ap (λ m. named_neighbour m b) e) ∙ n.1) in
        let w = n.2 in
        ne_eqb _ _ (omega arith)
    go dups.Previous e has =
        let n = named (has (λ f. let g : dups.Previous ≡ dups.Single = sym e ∙ f in cc)) in
        first b n.0 (sym (ap (λ m. named_neighbour m b) e) ∙ n.1)

-- a partner whose partner is the balise answers
pub answered-is : (group : List Telegram) (b : ℕ) → ((q : ℕ) → partner_place group b ≡ Some q → partner_place group q ≡ Some b) → is_unanswered group (partner_place group b) b ≡ false
answered-is group b answers = each_of (partner_place group b) (λ o. is_unanswered group o b ≡ false) refl (λ q e. other-is_false (partner_place group q) b (answers q e))

-- the counter of the first telegram with one below 254
pub first_counter-is : (ts : List Telegram) (j : ℕ) (u : Telegram) → IsFirstCounted ts j u → first_counter ts ≡ Some u.header.counter
first_counter-is [] j u first = absurd (none-some u first.0)
first_counter-is (x ∷ ts) zero u first =
    let e = same_Some x u first.0 in
    let m : ltb x.header.counter 254 ≡ true = ap (λ (z : Telegram). ltb z.header.counter 254) e ∙ lt-ltb _ _ first.1 in
    ap (λ b. cond b (Some x.header.counter) (first_counter ts)) m ∙ ap (λ (z : Telegram). Some z.header.counter) e
first_counter-is (x ∷ ts) (suc j) u first =
    let high = first.2 0 x (omega arith) refl in
    ap (λ b. cond b (Some x.header.counter) (first_counter ts)) (le-ltb _ _ high)
    ∙ first_counter-is ts j u (first.0, first.1, λ i v lt at. first.2 (suc i) v (omega arith) at)

-- if there is one, there is a first one
pub first_counted : (ts : List Telegram) (b : ℕ) (t : Telegram) → At ts b t → t.header.counter < 254 → (k : ℕ) × (u : Telegram) × IsFirstCounted ts k u
first_counted [] b t at lt = absurd (none-some t at)
first_counted (x ∷ ts) zero t at lt =
    (0, t, (at, lt, λ i v less _. absurd (omega arith)))
first_counted (x ∷ ts) (suc b) t at lt = go (cases_lt x.header.counter 254) (first_counted ts b t at lt)
  where
    go : (x.header.counter < 254) ⊎ (254 ≤ x.header.counter) → (k : ℕ) × (u : Telegram) × IsFirstCounted ts k u → (k : ℕ) × (u : Telegram) × IsFirstCounted (x ∷ ts) k u
    go (inl low) r = (0, x, (refl, low, λ i v less _. absurd (omega arith)))
    go (inr high) r = (suc r.0, r.1, (r.2.0, r.2.1, before))
      where
        before : (i : ℕ) (v : Telegram) → i < suc r.0 → At (x ∷ ts) i v → 254 ≤ v.header.counter
        before zero v less at' = subst (λ (z : Telegram). 254 ≤ z.header.counter) (same_Some x v at') high
        before (suc i) v less at' = r.2.2 i v (omega arith) at'

-- a counter that is the first one below 254
pub equal-is : (group : List Telegram) (b : ℕ) (t : Telegram) → At group b t → ((j : ℕ) (u : Telegram) → t.header.counter < 254 → IsFirstCounted group j u → t.header.counter ≡ u.header.counter) → counter_differs group t ≡ false
equal-is group b t at same = elim (cases_lt t.header.counter 254) [
  | inr ge ↦ and_left _ _ (le-ltb _ _ ge)
  | inl lt ↦
      let r = first_counted group b t at lt in
      and_right (ltb t.header.counter 254) _ (other-is_false (first_counter group) t.header.counter (first_counter-is group r.0 r.1 r.2 ∙ ap Some (sym (same r.0 r.1 lt r.2))))
]
