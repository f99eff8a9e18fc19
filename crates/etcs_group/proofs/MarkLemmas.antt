-- What duplicate flags name, and the partners of places.
use Rattle.std.proofs.Common.{◌≡◌, ◌≢◌, ℕ, zero, suc, ◌+◌, ◌<◌, Bool, true, false, cond, eqb, ltb, List, length, slice_get, Option, Some, None, refl, sym, ap, subst, ◌∙◌, arith, option_and_then, IsSome}
use Rattle.std.specs.Option.{option_map_or}
use Rattle.std.proofs.lemmas.Option.{none-some, same_Some}
use Rattle.std.proofs.lemmas.Bool.{eqb-true, eq-eqb, ltb-true, lt-ltb, cond-true, both_ways}
use Rattle.etcs_bits.specs.declared.variables.duplicate.Dup.{Dup}
use Rattle.etcs_bits.specs.declared.variables.duplicate.Dup.TheVariants as dups
use Rattle.etcs_telegram.specs.Record.{Telegram}
use Rattle.etcs_group.specs.Places.{At}
use Rattle.etcs_group.specs.Group.{named_neighbour, partner_place, IsWellFormed}
use Rattle.etcs_group.proofs.PlaceLemmas.{one_at}

-- whether a duplicate flag at one number names another: the test of `names`
abbrev pub is_named : Dup → ℕ → ℕ → Bool
is_named mark q p = option_map_or (λ r. eqb r p) (named_neighbour mark q) false

pub named-from_test : (mark : Dup) (q p : ℕ) → is_named mark q p ≡ true → named_neighbour mark q ≡ Some p
named-from_test mark q p h = go (named_neighbour mark q) h
  where
    go : (o : Option ℕ) → option_map_or (λ r. eqb r p) o false ≡ true → o ≡ Some p
    go None e = absurd (both_ways false refl e)
    go (Some r) e = ap Some (eqb-true r p e)

pub test_from-named : (mark : Dup) (q p : ℕ) → named_neighbour mark q ≡ Some p → is_named mark q p ≡ true
test_from-named mark q p h = ap (λ o. option_map_or (λ r. eqb r p) o false) h ∙ eq-eqb p p refl

-- the number, if it is below n: the test of `partner_place`
abbrev below : ℕ → ℕ → Option ℕ
below n p = cond (ltb p n) (Some p) None

below-some : (n p q : ℕ) → below n p ≡ Some q → (p ≡ q) × (q < n)
below-some n p q h = go (ltb p n) refl h
  where
    go : (t : Bool) → ltb p n ≡ t → cond t (Some p) None ≡ Some q → (p ≡ q) × (q < n)
    go true e g = let s = same_Some p q g in let lt = ltb-true p n e in (s, omega arith)
    go false e g = absurd (none-some q g)

-- what the duplicate flag of the balise at place p names
abbrev named_at : List Telegram → ℕ → Option ℕ
named_at group p = option_and_then (λ t. named_neighbour t.header.dup p) (slice_get group p)

named-at : (group : List Telegram) (p : ℕ) (t : Telegram) → At group p t → named_at group p ≡ named_neighbour t.header.dup p
named-at group p t at = ap (option_and_then (λ (t : Telegram). named_neighbour t.header.dup p)) at

at-named : (group : List Telegram) (p q : ℕ) → named_at group p ≡ Some q → (t : Telegram) × At group p t × (named_neighbour t.header.dup p ≡ Some q)
at-named group p q h = go (slice_get group p) refl h
  where
    go : (o : Option Telegram) → slice_get group p ≡ o → option_and_then (λ (t : Telegram). named_neighbour t.header.dup p) o ≡ Some q → (t : Telegram) × At group p t × (named_neighbour t.header.dup p ≡ Some q)
    go None e g = absurd (none-some q g)
    go (Some t) e g = (t, e, g)

-- a partner is named by the balise that is there
pub partner-says : (group : List Telegram) (p q : ℕ) → partner_place group p ≡ Some q → (t : Telegram) × At group p t × (named_neighbour t.header.dup p ≡ Some q) × (q < length group)
partner-says group p q h = go (named_at group p) refl h
  where
    go : (o : Option ℕ) → named_at group p ≡ o → option_and_then (below (length group)) o ≡ Some q → (t : Telegram) × At group p t × (named_neighbour t.header.dup p ≡ Some q) × (q < length group)
    go None e g = absurd (none-some q g)
    go (Some r) e g =
        let w = below-some (length group) r q g in
        let n = at-named group p q (e ∙ ap Some w.0) in
        (n.0, n.1, n.2, w.1)

pub partner-is : (group : List Telegram) (p q : ℕ) (t : Telegram) → At group p t → named_neighbour t.header.dup p ≡ Some q → q < length group → partner_place group p ≡ Some q
partner-is group p q t at e lt =
    ap (option_and_then (below (length group))) (named-at group p t at ∙ e)
    ∙ cond-true (ltb q (length group)) (Some q) None (lt-ltb q (length group) lt)

-- a balise without a duplicate flag has no partner
pub partner-single : (group : List Telegram) (p : ℕ) (t : Telegram) → At group p t → t.header.dup ≡ dups.Single → partner_place group p ≡ None
partner-single group p t at e =
    ap (option_and_then (below (length group))) (named-at group p t at ∙ ap (λ mark. named_neighbour mark p) e)

-- ---- in a well-formed group

module _ (group : List Telegram) (formed : IsWellFormed group) where
  -- a duplicate flag names a place of the group
  pub named_within : (b : ℕ) (t : Telegram) (c : ℕ) → At group b t → named_neighbour t.header.dup b ≡ Some c → c < length group
  named_within b t c at n = from_partner (partner_place group b) refl (formed.inside b t at marked)
    where
      marked : t.header.dup ≢ dups.Single
      marked e = absurd (none-some c (sym (ap (λ m. named_neighbour m b) e) ∙ n))

      from_partner : (o : Option ℕ) → partner_place group b ≡ o → IsSome o → c < length group
      from_partner None e h = absurd (both_ways false refl h)
      from_partner (Some q) e h =
          let r = partner-says group b q e in
          let same : q ≡ c = same_Some q c (sym r.2 ∙ ap (λ (x : Telegram). named_neighbour x.header.dup b) (one_at group b r.0 t r.1 at) ∙ n) in
          subst (λ k. k < length group) same r.3

  -- the balise after one that names the next one names the previous one
  pub next-at : (b : ℕ) (t : Telegram) → At group b t → t.header.dup ≡ dups.Next → (partner_place group b ≡ Some (suc b)) × (u : Telegram) × At group (suc b) u × (u.header.dup ≡ dups.Previous)
  next-at b t at e =
      let one : b + 1 ≡ suc b = omega arith in
      let n : named_neighbour t.header.dup b ≡ Some (suc b) = ap (λ m. named_neighbour m b) e ∙ ap Some one in
      let p = partner-is group b (suc b) t at n (named_within b t (suc b) at n) in
      let r = partner-says group (suc b) b (formed.answered b (suc b) p) in
      (p, r.0, r.1, previous r.0.header.dup r.2)
    where
      previous : (m : Dup) → named_neighbour m (suc b) ≡ Some b → m ≡ dups.Previous
      previous dups.Single n = absurd (none-some b n)
      previous dups.Next n = let e = same_Some _ _ n in absurd (omega arith)
      previous dups.Previous n = refl

  -- the balise before one that names the previous one names the next one
  pub previous-at : (b : ℕ) (u : Telegram) → At group b u → u.header.dup ≡ dups.Previous → (a : ℕ) × (b ≡ suc a) × (t : Telegram) × At group a t × (t.header.dup ≡ dups.Next)
  previous-at zero u at e = absurd (first (partner_place group 0) refl (formed.inside 0 u at marked))
    where
      marked : u.header.dup ≢ dups.Single
      marked f = let g : dups.Previous ≡ dups.Single = sym e ∙ f in cc

      first : (o : Option ℕ) → partner_place group 0 ≡ o → IsSome o → ⊥
      first None f h = both_ways false refl h
      first (Some q) f h =
          let r = partner-says group 0 q f in
          none-some q (sym (ap (λ m. named_neighbour m 0) (ap (λ (x : Telegram). x.header.dup) (one_at group 0 r.0 u r.1 at) ∙ e)) ∙ r.2)
  previous-at (suc a) u at e =
      let n : named_neighbour u.header.dup (suc a) ≡ Some a = ap (λ m. named_neighbour m (suc a)) e in
      let p = partner-is group (suc a) a u at n (named_within (suc a) u a at n) in
      let r = partner-says group a (suc a) (formed.answered (suc a) a p) in
      (a, refl, r.0, r.1, next r.0.header.dup r.2)
    where
      named_before : (b c : ℕ) → named_neighbour dups.Previous b ≡ Some c → b ≡ suc c
      named_before zero c n = absurd (none-some c n)
      named_before (suc b) c n = ap suc (same_Some b c n)

      next : (m : Dup) → named_neighbour m a ≡ Some (suc a) → m ≡ dups.Next
      next dups.Single n = absurd (none-some (suc a) n)
      next dups.Next n = refl
      next dups.Previous n = let e = named_before a (suc a) n in absurd (omega arith)
