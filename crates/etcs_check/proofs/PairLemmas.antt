-- Only one balise of a pair is missed: the set is covered, and the reading has the full message only if the
-- packets of the pair are equal.
use Rattle.std.proofs.Common.{◌≡◌, ◌≢◌, ℕ, zero, suc, ◌+◌, cond, eqb, List, [], ◌∷◌, ◌++◌, refl, sym, ap, subst, ◌∙◌, arith, IsSomeAnd, IsFalse}
use Rattle.std.proofs.lemmas.List.{append-nil, append_cancel_left, append_cancel_right}
use Rattle.std.proofs.lemmas.Option.{none-some, same_Some}
use Rattle.std.proofs.lemmas.Bool.{eqb-true, eq-eqb, ne_eqb}
use Rattle.etcs_group.specs.Places.{At}
use Rattle.etcs_group.specs.Group.{partner_place, IsWellFormed}
use Rattle.etcs_group.specs.Missed.{IsCovered, none_missed}
use Rattle.etcs_group.specs.Reading.{group_reading}
use Rattle.etcs_group.specs.Packets.{held_packets, assembled}
use Rattle.etcs_check.specs.Violation.{only, passed_first}
use Rattle.etcs_profile.specs.declared.run.Run.{Run}
use Rattle.etcs_profile.specs.declared.run.Run.TheVariants as runs
use Rattle.etcs_bits.specs.declared.variables.duplicate.Dup.{Dup}
use Rattle.etcs_bits.specs.declared.variables.duplicate.Dup.TheVariants as dups
use Rattle.etcs_profile.specs.declared.track.TrackPacket.{TrackPacket}
use Rattle.etcs_telegram.specs.Record.{Telegram}
use Rattle.etcs_group.proofs.MarkLemmas.{next-at}
use Rattle.etcs_group.proofs.PassingLemmas.{joined, passed, passed-agree}
use Rattle.etcs_group.proofs.SaidLemmas.{is_quiet, part, packets-passed}

joined_cancel : {A : Type 0} (run : Run) (piece xs ys : List A) → joined run piece xs ≡ joined run piece ys → xs ≡ ys
joined_cancel runs.Nominal piece xs ys e = append_cancel_left piece xs ys e
joined_cancel runs.Reverse piece xs ys e = append_cancel_right xs ys piece e

-- two functions of places that differ only at two neighbours are passed alike if the neighbours together are
-- equal
passed_cut : {A : Type 0} (run : Run) (f g : ℕ → Telegram → List A) (i : ℕ) (ts : List Telegram) (k : ℕ) (t u : Telegram) → At ts k t → At ts (suc k) u
    → ((j : ℕ) (v : Telegram) → At ts j v → j ≢ k → j ≢ suc k → f (i + j) v ≡ g (i + j) v)
    → passed run f i ts ≡ passed run g i ts
    → (rest : List A) × (joined run (f (i + k) t) (joined run (f (i + suc k) u) rest) ≡ joined run (g (i + k) t) (joined run (g (i + suc k) u) rest))
passed_cut run f g i [] k t u a b other same = absurd (none-some t a)
passed_cut run f g i (x ∷ []) zero t u a b other same = absurd (none-some u b)
passed_cut run f g i (x ∷ (y ∷ ys)) zero t u a b other same =
    let z : i + 0 ≡ i = omega arith in
    let s : i + 1 ≡ suc i = omega arith in
    let rest : passed run f (suc (suc i)) ys ≡ passed run g (suc (suc i)) ys = passed-agree run f g (suc (suc i)) ys (λ k v at.
    let w : i + suc (suc k) ≡ suc (suc i) + k = omega arith in
    let n : suc (suc k) ≢ 0 = omega arith in
    let m : suc (suc k) ≢ 1 = omega arith in
    subst (λ n. f n v ≡ g n v) w (other (suc (suc k)) v at n m)) in
    let xt = same_Some x t a in
    let yu = same_Some y u b in (
      passed run f (suc (suc i)) ys,
      rw (z, s, ← xt, ← yu) (same ∙ ap (λ l. joined run (g i x) (joined run (g (suc i) y) l)) (sym rest)),
    )
passed_cut run f g i (x ∷ xs) (suc k) t u a b other same =
    let z : i + 0 ≡ i = omega arith in
    let o : 0 ≢ suc k = omega arith in
    let o' : 0 ≢ suc (suc k) = omega arith in
    let here : f i x ≡ g i x = subst (λ n. f n x ≡ g n x) z (other 0 x refl o o') in
    let tail : passed run f (suc i) xs ≡ passed run g (suc i) xs = joined_cancel run (g i x) (passed run f (suc i) xs) (passed run g (suc i) xs) (ap (λ l. joined run l (passed run f (suc i) xs)) (sym here) ∙ same) in
    let r = passed_cut run f g (suc i) xs k t u a b (λ j v at n m.
    let w : i + suc j ≡ suc i + j = omega arith in
    let n' : suc j ≢ suc k = λ e. n (omega arith) in
    let m' : suc j ≢ suc (suc k) = λ e. m (omega arith) in
    subst (λ n. f n v ≡ g n v) w (other (suc j) v at n' m')) tail in
    let p : suc i + k ≡ i + suc k = omega arith in
    let q : suc i + suc k ≡ i + suc (suc k) = omega arith in (
      r.0,
      subst (λ n. joined run (f (i + suc k) t) (joined run (f n u) r.0) ≡ joined run (g (i + suc k) t) (joined run (g n u) r.0)) q
          (subst (λ n. joined run (f n t) (joined run (f (suc i + suc k) u) r.0) ≡ joined run (g n t) (joined run (g (suc i + suc k) u) r.0)) p r.1),
    )

-- nothing changes elsewhere
part_elsewhere : (run : Run) (b j : ℕ) (v : Telegram) → j ≢ b → j ≢ suc b → part run (only (passed_first run b)) j v ≡ part run none_missed j v
part_elsewhere run b j v n m = go run v.header.dup j n m
  where
    go : (run : Run) (mark : Dup) (j : ℕ) → j ≢ b → j ≢ suc b → cond (eqb j (passed_first run b)) [] (cond (is_quiet run (only (passed_first run b)) mark j) [] (held_packets run v)) ≡ cond (is_quiet run none_missed mark j) [] (held_packets run v)
    go runs.Nominal dups.Single j n m = rw (ne_eqb j b n) refl
    go runs.Nominal dups.Next j n m = rw (ne_eqb j b n) refl
    go runs.Nominal dups.Previous zero n m = rw (ne_eqb 0 b n) refl
    go runs.Nominal dups.Previous (suc j) n m = let k : j ≢ b = λ e. m (ap suc e) in rw (ne_eqb (suc j) b n, ne_eqb j b k) refl
    go runs.Reverse dups.Single j n m = rw (ne_eqb j (suc b) m) refl
    go runs.Reverse dups.Next j n m = let k : suc j ≢ suc b = λ e. n (omega arith) in rw (ne_eqb j (suc b) m, ne_eqb (suc j) (suc b) k) refl
    go runs.Reverse dups.Previous zero n m = rw (ne_eqb 0 (suc b) m) refl
    go runs.Reverse dups.Previous (suc j) n m = rw (ne_eqb (suc j) (suc b) m) refl

pair_equal : (run : Run) (b : ℕ) (t u : Telegram) (rest : List TrackPacket) → t.header.dup ≡ dups.Next → u.header.dup ≡ dups.Previous
    → joined run (part run (only (passed_first run b)) b t) (joined run (part run (only (passed_first run b)) (suc b) u) rest) ≡ joined run (part run none_missed b t) (joined run (part run none_missed (suc b) u) rest)
    → held_packets run t ≡ held_packets run u
pair_equal runs.Nominal b t u rest e f same =
    let yes' = eq-eqb b b refl in
    let n : suc b ≢ b = omega arith in
    let no' = ne_eqb (suc b) b n in
    let plain : held_packets runs.Nominal u ++ rest ≡ held_packets runs.Nominal t ++ rest = rw (e, f, yes', no') at same in
    sym (append_cancel_right _ _ rest plain)
pair_equal runs.Reverse b t u rest e f same =
    let yes' = eq-eqb (suc b) (suc b) refl in
    let n : b ≢ suc b = omega arith in
    let no' = ne_eqb b (suc b) n in
    let plain : (rest ++ []) ++ held_packets runs.Reverse t ≡ (rest ++ held_packets runs.Reverse u) ++ [] = rw (e, f, yes', no') at same in
    append_cancel_left rest _ _ (ap (λ l. l ++ held_packets runs.Reverse t) (sym (append-nil rest)) ∙ plain ∙ append-nil (rest ++ held_packets runs.Reverse u))

pub duplicates-equal : (group : List Telegram) (run : Run) (b : ℕ) (t u : Telegram) → IsWellFormed group → At group b t → At group (suc b) u → t.header.dup ≡ dups.Next → u.header.dup ≡ dups.Previous
    → assembled run (group_reading run (only (passed_first run b)) group) ≡ assembled run (group_reading run none_missed group)
    → held_packets run t ≡ held_packets run u
duplicates-equal group run b t u formed at au e f same =
    let all : passed run (part run (only (passed_first run b))) 0 group ≡ passed run (part run none_missed) 0 group = sym (packets-passed group run (only (passed_first run b)) formed) ∙ same ∙ packets-passed group run none_missed formed in
    let r = passed_cut run (part run (only (passed_first run b))) (part run none_missed) 0 group b t u at au (λ j v _ n m. let z : j ≡ 0 + j = omega arith in subst (λ k. part run (only (passed_first run b)) k v ≡ part run none_missed k v) z (part_elsewhere run b j v n m)) all in
    let z : 0 + b ≡ b = omega arith in
    let s : 0 + suc b ≡ suc b = omega arith in
    pair_equal run b t u r.0 e f (rw (z, s) at r.1)

-- the set of only the first is covered
pub only-covered : (group : List Telegram) (run : Run) (b : ℕ) (t : Telegram) → IsWellFormed group → At group b t → t.header.dup ≡ dups.Next → IsCovered group (only (passed_first run b))
only-covered group runs.Nominal b t formed at e p is =
    let s : b ≡ p = sym (eqb-true p b is) in
    let n : suc b ≢ b = omega arith in
    subst (λ p. IsSomeAnd (partner_place group p) (λ q. IsFalse (only b q))) s (rw ((next-at group formed b t at e).0) (ne_eqb (suc b) b n))
only-covered group runs.Reverse b t formed at e p is =
    let s : suc b ≡ p = sym (eqb-true p (suc b) is) in
    let n : b ≢ suc b = omega arith in
    subst (λ p. IsSomeAnd (partner_place group p) (λ q. IsFalse (only (suc b) q))) s (rw (formed.answered b (suc b) (next-at group formed b t at e).0) (ne_eqb b (suc b) n))
