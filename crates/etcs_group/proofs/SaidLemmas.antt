-- The message of a covered reading of a well-formed group.
use Rattle.std.proofs.Common.{◌≡◌, ℕ, zero, suc, ◌+◌, ◌<◌, Bool, true, false, not, cond, List, [], length, take, Some, refl, sym, ap, subst, ◌∙◌, arith}
use Rattle.std.specs.List.{list_any, enumerate_from}
use Rattle.std.proofs.lemmas.Option.{none-some, same_Some, slice_get_within}
use Rattle.std.proofs.lemmas.Bool.{lt-ltb, both_ways, cases_order, not-true, not_from_false}
use mathlib.Core.Logic.{inl, inr}
use Rattle.etcs_bits.specs.declared.variables.duplicate.Dup.{Dup}
use Rattle.etcs_bits.specs.declared.variables.duplicate.Dup.TheVariants as dups
use Rattle.etcs_profile.specs.declared.run.Run.{Run}
use Rattle.etcs_profile.specs.declared.run.Run.TheVariants as runs
use Rattle.etcs_profile.specs.declared.track.TrackPacket.{TrackPacket}
use Rattle.etcs_telegram.specs.Record.{Telegram}
use Rattle.etcs_group.specs.Places.{At}
use Rattle.etcs_group.specs.Group.{named_neighbour, IsWellFormed}
use Rattle.etcs_group.specs.Missed.{none_missed}
use Rattle.etcs_group.specs.Reading.{group_reading}
use Rattle.etcs_group.specs.Assembly.{names}
use Rattle.etcs_group.specs.Packets.{held_packets, given_packets, assembled, is_silent, balise_packets, group_message}
use Rattle.etcs_group.proofs.PlaceLemmas.{some_at, one_at, at_list_any, list_any-at, At-take, at_take}
use Rattle.etcs_group.proofs.MarkLemmas.{named-from_test, test_from-named, named_within, next-at}
use Rattle.etcs_group.proofs.ReadingLemmas.{kept, kept-is, reading-at, at-reading, reading-order, IsPassedBefore}
use Rattle.etcs_group.proofs.PassingLemmas.{joined_by, joined_by-is, passed, passed-is, passed-agree, passed_kept, flat_enumerated}

-- whether the balise at place b is quiet: the one that its duplicate flag names is read before it
abbrev pub is_quiet : Run → (ℕ → Bool) → Dup → ℕ → Bool
is_quiet runs.Nominal missed dups.Previous (suc b) = not (missed b)
is_quiet runs.Reverse missed dups.Next b = not (missed (suc b))
is_quiet run missed mark b = false

-- what the balise at place b adds to the message
abbrev pub part : Run → (ℕ → Bool) → ℕ → Telegram → List TrackPacket
part run missed b t = cond (missed b) [] (cond (is_quiet run missed t.header.dup b) [] (held_packets run t))

same_bool : (a b : Bool) → (a ≡ true → b ≡ true) → (b ≡ true → a ≡ true) → a ≡ b
same_bool true b f g = sym (f refl)
same_bool false true f g = g refl
same_bool false false f g = refl

-- a duplicate flag at c that names b, if b is passed before c
quiet-named : (run : Run) (missed : ℕ → Bool) (m : Dup) (b c : ℕ) → IsPassedBefore run b c → named_neighbour m c ≡ Some b → missed b ≡ false → is_quiet run missed m c ≡ true
quiet-named runs.Nominal missed dups.Single b c lt n k = absurd (none-some b n)
quiet-named runs.Nominal missed dups.Next b c lt n k = let e = same_Some _ _ n in absurd (omega arith)
quiet-named runs.Nominal missed dups.Previous b zero lt n k = absurd (omega arith)
quiet-named runs.Nominal missed dups.Previous b (suc c) lt n k = let e = same_Some _ _ n in not_from_false _ (ap missed e ∙ k)
quiet-named runs.Reverse missed dups.Single b c lt n k = absurd (none-some b n)
quiet-named runs.Reverse missed dups.Next b c lt n k = let e = same_Some _ _ n in let s : suc c ≡ b = omega arith in not_from_false _ (ap missed s ∙ k)
quiet-named runs.Reverse missed dups.Previous b zero lt n k = absurd (none-some b n)
quiet-named runs.Reverse missed dups.Previous b (suc c) lt n k = let e = same_Some _ _ n in absurd (omega arith)

-- a duplicate flag at c by which the balise is quiet names a balise that is passed before c
named-quiet : (run : Run) (missed : ℕ → Bool) (m : Dup) (c : ℕ) → is_quiet run missed m c ≡ true → (b : ℕ) × IsPassedBefore run b c × (named_neighbour m c ≡ Some b) × (missed b ≡ false)
named-quiet runs.Nominal missed dups.Single c q = absurd (both_ways false refl q)
named-quiet runs.Nominal missed dups.Next c q = absurd (both_ways false refl q)
named-quiet runs.Nominal missed dups.Previous zero q = absurd (both_ways false refl q)
named-quiet runs.Nominal missed dups.Previous (suc c) q = (c, omega arith, refl, not-true _ q)
named-quiet runs.Reverse missed dups.Single c q = absurd (both_ways false refl q)
named-quiet runs.Reverse missed dups.Next c q = let s : c + 1 ≡ suc c = omega arith in (suc c, omega arith, ap Some s, not-true _ q)
named-quiet runs.Reverse missed dups.Previous zero q = absurd (both_ways false refl q)
named-quiet runs.Reverse missed dups.Previous (suc c) q = absurd (both_ways false refl q)

passed_apart : (run : Run) (b c : ℕ) → IsPassedBefore run b c → IsPassedBefore run c b → ⊥
passed_apart runs.Nominal b c h k = omega arith
passed_apart runs.Reverse b c h k = omega arith

passed_same : (run : Run) (b : ℕ) → IsPassedBefore run b b → ⊥
passed_same runs.Nominal b h = omega arith
passed_same runs.Reverse b h = omega arith

module _ (group : List Telegram) (run : Run) (missed : ℕ → Bool) (formed : IsWellFormed group) where
  -- the telegram that a duplicate flag names is read earlier if and only if its balise is read and passed
  -- before
  quiet-read : (i : ℕ) (t : Telegram) → At (group_reading run missed group) i t → list_any (λ u. names t u.header.position) (take i (group_reading run missed group)) ≡ is_quiet run missed t.header.dup t.header.position
  quiet-read i t e = same_bool _ _ forth back
    where
      s : List Telegram
      s = group_reading run missed group

      forth : list_any (λ u. names t u.header.position) (take i s) ≡ true → is_quiet run missed t.header.dup t.header.position ≡ true
      forth h =
          let r = list_any-at (λ u. names t u.header.position) (take i s) h in
          let p = At-take i s r.0 r.1 r.2 in
          let o = reading-order group missed run r.0 i r.1 t p.0 p.1 e in
          let read = reading-at group missed run r.0 r.1 p.1 in
          let pu : r.1.header.position ≡ o.0 = formed.placed o.0 r.1 o.3 in
          let pt : t.header.position ≡ o.1 = formed.placed o.1 t o.4 in
          let here : missed o.0 ≡ false = ap missed (sym pu ∙ formed.placed read.0 r.1 read.1) ∙ read.2 in
          let n : named_neighbour t.header.dup o.1 ≡ Some o.0 = ap (named_neighbour t.header.dup) (sym pt) ∙ named-from_test t.header.dup t.header.position r.1.header.position r.3 ∙ ap Some pu in
          subst (λ c. is_quiet run missed t.header.dup c ≡ true) (sym pt) (quiet-named run missed t.header.dup o.0 o.1 o.2 n here)

      back : is_quiet run missed t.header.dup t.header.position ≡ true → list_any (λ u. names t u.header.position) (take i s) ≡ true
      back q =
          let own = reading-at group missed run i t e in
          let pt : t.header.position ≡ own.0 = formed.placed own.0 t own.1 in
          let n = named-quiet run missed t.header.dup own.0 (subst (λ c. is_quiet run missed t.header.dup c ≡ true) pt q) in
          let lt = named_within group formed own.0 t n.0 own.1 n.2 in
          let u = some_at group n.0 lt in
          let j = at-reading group missed run n.0 u.0 u.1 n.3 in
          let pu : u.0.header.position ≡ n.0 = formed.placed n.0 u.0 u.1 in
          at_list_any (λ v. names t v.header.position) (take i s) j.0 u.0 (at_take i s j.0 u.0 (earlier j.0 u.0 j.1 own.0 n.0 pt pu n.1) j.1)
          (test_from-named t.header.dup t.header.position u.0.header.position (ap (named_neighbour t.header.dup) pt ∙ n.2 ∙ ap Some (sym pu)))
        where
          earlier : (j : ℕ) (u : Telegram) → At s j u → (own b : ℕ) → t.header.position ≡ own → u.header.position ≡ b → IsPassedBefore run b own → j < i
          earlier j u f own b pt pu before = elim (cases_order j i) [
            | inl same ↦
                let eq : u ≡ t = one_at s i u t (subst (λ k. At s k u) same f) e in
                let eq' : b ≡ own = sym pu ∙ ap (λ (x : Telegram). x.header.position) eq ∙ pt in
                absurd (passed_same run own (subst (λ k. IsPassedBefore run k own) eq' before))
            | inr o ↦ elim o [
              | inl lt ↦ lt
              | inr gt ↦
                  let r = reading-order group missed run i j t u gt e f in
                  let a : r.0 ≡ own = sym (formed.placed r.0 t r.3) ∙ pt in
                  let c : r.1 ≡ b = sym (formed.placed r.1 u r.4) ∙ pu in
                  absurd (passed_apart run own b (subst (λ k. IsPassedBefore run own k) c (subst (λ k. IsPassedBefore run k r.1) a r.2)) before)
            ]
          ]

  -- the packets of a reading, by the places of the group
  pub packets-passed : assembled run (group_reading run missed group) ≡ passed run (part run missed) 0 group
  packets-passed =
      flat_enumerated (given_packets run (group_reading run missed group)) f 0 (group_reading run missed group) given
      ∙ joined_by-is run f (kept missed group)
      ∙ ap (joined_by run f) (kept-is missed group)
      ∙ passed_kept run f missed 0 group
      ∙ passed-agree run (λ b t. cond (missed b) [] (f t)) (part run missed) 0 group (λ k t e.
      let z : 0 + k ≡ k = omega arith in
      ap (λ c. cond (missed (0 + k)) [] (cond (is_quiet run missed t.header.dup c) [] (held_packets run t))) (formed.placed k t e ∙ sym z))
    where
      f : Telegram → List TrackPacket
      f t = cond (is_quiet run missed t.header.dup t.header.position) [] (held_packets run t)

      given : (k : ℕ) (t : Telegram) → At (group_reading run missed group) k t → given_packets run (group_reading run missed group) (0 + k) t ≡ f t
      given k t e =
          let z : 0 + k ≡ k = omega arith in
          ap (λ n. given_packets run (group_reading run missed group) n t) z ∙ ap (λ b. cond b [] (held_packets run t)) (quiet-read k t e)

-- ---- the message of a group, by its places

module _ (group : List Telegram) (formed : IsWellFormed group) where
  -- with nothing missed, a balise is quiet if and only if it is silent
  silent-quiet : (run : Run) (b : ℕ) (t : Telegram) → At group b t → is_silent run t.header.dup (length group) b ≡ is_quiet run none_missed t.header.dup b
  silent-quiet run b t at = go run t.header.dup refl b at
    where
      inside : (b : ℕ) → At group b t → t.header.dup ≡ dups.Next → b + 1 < length group
      inside b at e = let w = slice_get_within group (suc b) (next-at group formed b t at e).1 (next-at group formed b t at e).2 in omega arith

      go : (run : Run) (m : Dup) → t.header.dup ≡ m → (b : ℕ) → At group b t → is_silent run m (length group) b ≡ is_quiet run none_missed m b
      go runs.Nominal dups.Single e b at = refl
      go runs.Nominal dups.Next e b at = refl
      go runs.Nominal dups.Previous e zero at = refl
      go runs.Nominal dups.Previous e (suc b) at = lt-ltb 0 (suc b) (omega arith)
      go runs.Reverse dups.Single e b at = refl
      go runs.Reverse dups.Next e b at = lt-ltb (b + 1) (length group) (inside b at e)
      go runs.Reverse dups.Previous e zero at = refl
      go runs.Reverse dups.Previous e (suc b) at = refl

  pub said-passed : (run : Run) → group_message run group ≡ passed run (part run none_missed) 0 group
  said-passed run =
      joined_by-is run (λ (e : ℕ × Telegram). balise_packets run (length group) e.0 e.1) (enumerate_from 0 group)
      ∙ passed-is run (balise_packets run (length group)) 0 group
      ∙ passed-agree run (balise_packets run (length group)) (part run none_missed) 0 group (λ k t e.
      let z : 0 + k ≡ k = omega arith in
      ap (λ s. cond s [] (held_packets run t)) (silent-quiet run (0 + k) t (subst (λ n. At group n t) (sym z) e)))

  -- with nothing missed the packets are the message of the group
  pub said-packets : (run : Run) → group_message run group ≡ assembled run (group_reading run none_missed group)
  said-packets run = said-passed run ∙ sym (packets-passed group run none_missed formed)
