-- A group is made of blocks: balises without a duplicate flag, and pairs. Whichever balises of a pair are
-- read, a block gives one list, so each covered reading of a group has the same message.
use Rattle.std.proofs.Common.{◌≡◌, ◌≢◌, ℕ, suc, ◌+◌, ◌<◌, Bool, true, false, not, cond, List, [], ◌∷◌, ◌++◌, length, refl, sym, ap, subst, ◌∙◌, arith, IsFalse, IsSomeAnd}
use Rattle.std.proofs.lemmas.List.{append-nil}
use Rattle.std.proofs.lemmas.Option.{slice_get_within}
use Rattle.std.proofs.lemmas.Bool.{both_ways, false_from_ne_true}
use Rattle.etcs_bits.specs.declared.variables.duplicate.Dup.{Dup}
use Rattle.etcs_bits.specs.declared.variables.duplicate.Dup.TheVariants as dups
use Rattle.etcs_profile.specs.declared.run.Run.{Run}
use Rattle.etcs_profile.specs.declared.run.Run.TheVariants as runs
use Rattle.etcs_profile.specs.declared.track.TrackPacket.{TrackPacket}
use Rattle.etcs_telegram.specs.Record.{Telegram}
use Rattle.etcs_group.specs.Places.{At}
use Rattle.etcs_group.specs.Group.{IsWellFormed}
use Rattle.etcs_group.specs.Missed.{IsCovered, none_missed}
use Rattle.etcs_group.specs.Reading.{group_reading}
use Rattle.etcs_group.specs.Packets.{held_packets, assembled, group_message, HasEqualPairs}
use Rattle.etcs_group.specs.Laws.{ReadingsSayTheSame}
use Rattle.etcs_group.proofs.PlaceLemmas.{one_at}
use Rattle.etcs_group.proofs.MarkLemmas.{next-at, previous-at, partner-single}
use Rattle.etcs_group.proofs.PassingLemmas.{joined, passed}
use Rattle.etcs_group.proofs.SaidLemmas.{is_quiet, part, packets-passed, said-passed, said-packets}

-- ---- a pair

-- whether a balise of a pair is quiet, given whether the other one is missed: first the first, then the
-- second
abbrev pub quiet_next : Run → Bool → Bool
quiet_next runs.Nominal b = false
quiet_next runs.Reverse b = not b

abbrev pub quiet_previous : Run → Bool → Bool
quiet_previous runs.Nominal a = not a
quiet_previous runs.Reverse a = false

-- at least one of the two is read
abbrev pub OneReads : (ℕ → Bool) → ℕ → Type 0
OneReads missed i = missed i ≡ true → missed (suc i) ≡ false

-- the packets of a pair, if a and b are whether its balises are missed
one_speaks : (run : Run) (h rest : List TrackPacket) (a b : Bool) → (a ≡ true → b ≡ false) → joined run (cond a [] (cond (quiet_next run b) [] h)) (joined run (cond b [] (cond (quiet_previous run a) [] h)) rest) ≡ joined run h rest
one_speaks runs.Nominal h rest true true k = absurd (both_ways true (k refl) refl)
one_speaks runs.Nominal h rest true false k = refl
one_speaks runs.Nominal h rest false true k = refl
one_speaks runs.Nominal h rest false false k = refl
one_speaks runs.Reverse h rest true true k = absurd (both_ways true (k refl) refl)
one_speaks runs.Reverse h rest true false k = append-nil (rest ++ h)
one_speaks runs.Reverse h rest false true k = ap (λ l. l ++ h) (append-nil rest)
one_speaks runs.Reverse h rest false false k = append-nil (rest ++ h)

quiet_next-is : (run : Run) (missed : ℕ → Bool) (i : ℕ) → is_quiet run missed dups.Next i ≡ quiet_next run (missed (suc i))
quiet_next-is runs.Nominal missed i = refl
quiet_next-is runs.Reverse missed i = refl

quiet_previous-is : (run : Run) (missed : ℕ → Bool) (i : ℕ) → is_quiet run missed dups.Previous (suc i) ≡ quiet_previous run (missed i)
quiet_previous-is runs.Nominal missed i = refl
quiet_previous-is runs.Reverse missed i = refl

pub pair-says : (run : Run) (missed : ℕ → Bool) (i : ℕ) (t u : Telegram) (rest : List TrackPacket) → t.header.dup ≡ dups.Next → u.header.dup ≡ dups.Previous → held_packets run t ≡ held_packets run u → OneReads missed i → joined run (part run missed i t) (joined run (part run missed (suc i) u) rest) ≡ joined run (held_packets run t) rest
pair-says run missed i t u rest e f same one = rw (e, f, ← same, quiet_next-is run missed i, quiet_previous-is run missed i) (one_speaks run (held_packets run t) rest (missed i) (missed (suc i)) one)

-- a balise without a duplicate flag is never quiet
pub alone-says : (run : Run) (missed : ℕ → Bool) (i : ℕ) (t : Telegram) → t.header.dup ≡ dups.Single → missed i ≡ false → part run missed i t ≡ held_packets run t
alone-says run missed i t e m = rw (e, m) (go run)
  where
    go : (run : Run) → cond (is_quiet run missed dups.Single i) [] (held_packets run t) ≡ held_packets run t
    go runs.Nominal = refl
    go runs.Reverse = refl

-- ---- the blocks of a group: induction over its list

module _ (group : List Telegram) (run : Run) (missed : ℕ → Bool) (formed : IsWellFormed group) (covered : IsCovered group missed) (equal : HasEqualPairs run group) where
  -- ts is the rest of the group from place i on
  abbrev IsRest : ℕ → List Telegram → Type 0
  IsRest i ts = (i + length ts ≡ length group) × ((k : ℕ) (t : Telegram) → At ts k t → At group (i + k) t)

  alone_read : (i : ℕ) (t : Telegram) → At group i t → t.header.dup ≡ dups.Single → missed i ≡ false
  alone_read i t at e = false_from_ne_true (missed i) (λ m. subst (λ o. IsSomeAnd o (λ q. IsFalse (missed q))) (partner-single group i t at e) (covered i m))

  pair_read : (i : ℕ) (t : Telegram) → At group i t → t.header.dup ≡ dups.Next → OneReads missed i
  pair_read i t at e m = subst (λ o. IsSomeAnd o (λ q. IsFalse (missed q))) (next-at group formed i t at e).0 (covered i m)

  abbrev Same : ℕ → List Telegram → Type 0
  Same i ts = passed run (part run missed) i ts ≡ passed run (part run none_missed) i ts

  abbrev SameAfter : ℕ → Telegram → List Telegram → Type 0
  SameAfter i t ts = joined run (part run missed i t) (passed run (part run missed) (suc i) ts) ≡ joined run (part run none_missed i t) (passed run (part run none_missed) (suc i) ts)

  rest_head : (i : ℕ) (u : Telegram) (us : List Telegram) → IsRest i (u ∷ us) → At group i u
  rest_head i u us r = let z : i + 0 ≡ i = omega arith in subst (λ n. At group n u) z (r.1 0 u refl)

  rest_tail : (i : ℕ) (u : Telegram) (us : List Telegram) → IsRest i (u ∷ us) → IsRest (suc i) us
  rest_tail i u us r = let e = r.0 in (omega arith, λ k t at. let z : i + suc k ≡ suc i + k = omega arith in subst (λ n. At group n t) z (r.1 (suc k) t at))

  -- only a balise that names the next one is in front of a balise that names the previous one
  not_previous : (i : ℕ) (u : Telegram) (us : List Telegram) → u.header.dup ≢ dups.Next → IsRest i (u ∷ us) → (v : Telegram) → At us 0 v → v.header.dup ≢ dups.Previous
  not_previous i u us other rest v at e =
      let r = previous-at group formed (suc i) v (rest_first (rest_tail i u us rest)) e in
      let f = r.1 in
      let s : r.0 ≡ i = omega arith in
      other (ap (λ (x : Telegram). x.header.dup) (one_at group i u r.2 (rest_head i u us rest) (subst (λ n. At group n r.2) s r.3)) ∙ r.4)
    where
      rest_first : IsRest (suc i) us → At group (suc i) v
      rest_first r = let z : suc i + 0 ≡ suc i = omega arith in subst (λ n. At group n v) z (r.1 0 v at)

  -- the rest from a block's beginning on, and the rest after the first balise of a pair
  blocks : (ts : List Telegram) → ((i : ℕ) → IsRest i ts → ((t : Telegram) → At ts 0 t → t.header.dup ≢ dups.Previous) → Same i ts) × ((i : ℕ) (t : Telegram) → At group i t → t.header.dup ≡ dups.Next → IsRest (suc i) ts → SameAfter i t ts)
  blocks [] = (
    λ i rest first. refl,
    λ i t at e rest.
        let n = next-at group formed i t at e in
        let w : suc i < length group = slice_get_within group (suc i) n.1 n.2 in
        let l = rest.0 in absurd (omega arith),
  )
  blocks (u ∷ us) = let ih = blocks us in (alone ih.0 ih.1, paired ih.0)
    where
      alone : ((i : ℕ) → IsRest i us → ((t : Telegram) → At us 0 t → t.header.dup ≢ dups.Previous) → Same i us) → ((i : ℕ) (t : Telegram) → At group i t → t.header.dup ≡ dups.Next → IsRest (suc i) us → SameAfter i t us) → (i : ℕ) → IsRest i (u ∷ us) → ((t : Telegram) → At (u ∷ us) 0 t → t.header.dup ≢ dups.Previous) → Same i (u ∷ us)
      alone ih after i rest first = by_mark u.header.dup refl
        where
          here : At group i u
          here = rest_head i u us rest

          by_mark : (m : Dup) → u.header.dup ≡ m → Same i (u ∷ us)
          by_mark dups.Single e =
              let other : u.header.dup ≢ dups.Next = λ f. let g : dups.Single ≡ dups.Next = sym e ∙ f in cc in
              let a = alone-says run missed i u e (alone_read i u here e) in
              let b = alone-says run none_missed i u e refl in
              ap (λ l. joined run l (passed run (part run missed) (suc i) us)) (a ∙ sym b) ∙ ap (joined run (part run none_missed i u)) (ih (suc i) (rest_tail i u us rest) (not_previous i u us other rest))
          by_mark dups.Next e = after i u here e (rest_tail i u us rest)
          by_mark dups.Previous e = absurd (first u refl e)

      paired : ((i : ℕ) → IsRest i us → ((t : Telegram) → At us 0 t → t.header.dup ≢ dups.Previous) → Same i us) → (i : ℕ) (t : Telegram) → At group i t → t.header.dup ≡ dups.Next → IsRest (suc i) (u ∷ us) → SameAfter i t (u ∷ us)
      paired ih i t at e rest =
          let n = next-at group formed i t at e in
          let here = rest_head (suc i) u us rest in
          let f : u.header.dup ≡ dups.Previous = ap (λ (x : Telegram). x.header.dup) (one_at group (suc i) u n.1 here n.2) ∙ n.3 in
          let other : u.header.dup ≢ dups.Next = λ g. let h : dups.Previous ≡ dups.Next = sym f ∙ g in cc in
          let same : held_packets run t ≡ held_packets run u = equal i (suc i) t u n.0 at here in
          pair-says run missed i t u (passed run (part run missed) (suc (suc i)) us) e f same (pair_read i t at e)
          ∙ ap (joined run (held_packets run t)) (ih (suc (suc i)) (rest_tail (suc i) u us rest) (not_previous (suc i) u us other rest))
          ∙ sym (pair-says run none_missed i t u (passed run (part run none_missed) (suc (suc i)) us) e f same (λ m. refl))

  pub passed-same : passed run (part run missed) 0 group ≡ passed run (part run none_missed) 0 group
  passed-same = (blocks group).0 0 (omega arith, λ k t at. let z : k ≡ 0 + k = omega arith in subst (λ n. At group n t) z at) (λ t at e. let r = previous-at group formed 0 t at e in let f = r.1 in omega arith)

-- ---- the law

packets-same : (run : Run) (group : List Telegram) (missed : ℕ → Bool) → IsWellFormed group → IsCovered group missed → HasEqualPairs run group → assembled run (group_reading run missed group) ≡ group_message run group
packets-same run group missed formed covered equal =
    packets-passed group run missed formed ∙ passed-same group run missed formed covered equal ∙ sym (said-passed group formed run)

pub readings_say_the_same : ReadingsSayTheSame
readings_say_the_same run group formed = record {
  full = said-packets group formed run;
  covered = λ equal missed covered. packets-same run group missed formed covered equal;
}
