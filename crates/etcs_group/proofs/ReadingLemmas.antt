-- What a reading of a group contains.
use Rattle.std.proofs.Common.{◌≡◌, ◌≢◌, ℕ, zero, suc, ◌+◌, ◌<◌, Bool, true, false, not, cond, List, [], ◌∷◌, length, map, reverse, filter, slice_get, refl, sym, ap, ◌∙◌, arith, add-one, IsTrue}
use Rattle.std.specs.List.{enumerate_from}
use Rattle.std.proofs.lemmas.Bool.{both_ways}
use Rattle.std.proofs.lemmas.Option.{none-some, slice_get_within}
use Rattle.std.proofs.lemmas.List.{reverse-reverse}
use Rattle.etcs_profile.specs.declared.run.Run.{Run}
use Rattle.etcs_profile.specs.declared.run.Run.TheVariants as runs
use Rattle.etcs_telegram.specs.Record.{Telegram}
use Rattle.etcs_group.specs.Places.{At}
use Rattle.etcs_group.specs.Reading.{group_reading}
use Rattle.etcs_group.proofs.PlaceLemmas.{At-reverse}

-- the telegrams that are kept; the first of the list is at place i
abbrev pub kept_from : ℕ → (ℕ → Bool) → List Telegram → List Telegram
kept_from i missed [] = []
kept_from i missed (t ∷ ts) = cond (missed i) (kept_from (suc i) missed ts) (t ∷ kept_from (suc i) missed ts)

-- the telegrams that are not missed, with their places
abbrev pairs_from : ℕ → (ℕ → Bool) → List Telegram → List (ℕ × Telegram)
pairs_from i missed ts = filter (λ e. not (missed e.0)) (enumerate_from i ts)

filtered_from : (i : ℕ) (missed : ℕ → Bool) (ts : List Telegram) → map (λ e. e.1) (pairs_from i missed ts) ≡ kept_from i missed ts
filtered_from i missed [] = refl
filtered_from i missed (t ∷ ts) = go (missed i) (ap (λ n. map (λ e. e.1) (pairs_from n missed ts)) (add-one i) ∙ filtered_from (suc i) missed ts)
  where
    go : (m : Bool) → map (λ e. e.1) (pairs_from (i + 1) missed ts) ≡ kept_from (suc i) missed ts
        → map (λ e. e.1) (cond (not m) ((i, t) ∷ pairs_from (i + 1) missed ts) (pairs_from (i + 1) missed ts)) ≡ cond m (kept_from (suc i) missed ts) (t ∷ kept_from (suc i) missed ts)
    go true e = e
    go false e = ap (λ l. t ∷ l) e

-- what is kept of a group, by rising place
abbrev pub kept : (ℕ → Bool) → List Telegram → List Telegram
kept missed group = map (λ (e : ℕ × Telegram). e.1) (filter (λ (e : ℕ × Telegram). not (missed e.0)) (enumerate_from 0 group))

pub kept-is : (missed : ℕ → Bool) (group : List Telegram) → kept missed group ≡ kept_from 0 missed group
kept-is missed group = filtered_from 0 missed group

-- a member of what is kept is in the list at a place that is not missed
kept-at : (i : ℕ) (missed : ℕ → Bool) (ts : List Telegram) (a : ℕ) (t : Telegram) → At (kept_from i missed ts) a t → (b : ℕ) × At ts b t × (missed (i + b) ≡ false)
kept-at i missed [] a t h = absurd (none-some t h)
kept-at i missed (u ∷ ts) a t h = go (λ a h. let r = kept-at (suc i) missed ts a t h in
    let e : i + suc r.0 ≡ suc i + r.0 = omega arith in
    (suc r.0, r.1, ap missed e ∙ r.2)) (missed i) refl a h
  where
    go : ((a : ℕ) → At (kept_from (suc i) missed ts) a t → (b : ℕ) × At (u ∷ ts) b t × (missed (i + b) ≡ false)) → (m : Bool) → missed i ≡ m → (a : ℕ) → At (cond m (kept_from (suc i) missed ts) (u ∷ kept_from (suc i) missed ts)) a t → (b : ℕ) × At (u ∷ ts) b t × (missed (i + b) ≡ false)
    go later true e a h = later a h
    go later false e zero h = let s : i + 0 ≡ i = omega arith in (0, h, ap missed s ∙ e)
    go later false e (suc a) h = later a h

-- each telegram at a place that is not missed is kept
at-kept : (i : ℕ) (missed : ℕ → Bool) (ts : List Telegram) (b : ℕ) (t : Telegram) → At ts b t → missed (i + b) ≡ false → (a : ℕ) × At (kept_from i missed ts) a t
at-kept i missed [] b t h m = absurd (none-some t h)
at-kept i missed (u ∷ ts) zero t h m =
    let s : i + 0 ≡ i = omega arith in
    let e : missed i ≡ false = ap missed (sym s) ∙ m in
    (0, rw e h)
at-kept i missed (u ∷ ts) (suc b) t h m =
    let s : suc i + b ≡ i + suc b = omega arith in
    go (at-kept (suc i) missed ts b t h (ap missed s ∙ m)) (missed i)
  where
    go : (a : ℕ) × At (kept_from (suc i) missed ts) a t → (m : Bool) → (a : ℕ) × At (cond m (kept_from (suc i) missed ts) (u ∷ kept_from (suc i) missed ts)) a t
    go r true = r
    go r false = (suc r.0, r.1)

-- two members in order are in order in the list
kept-order : (i : ℕ) (missed : ℕ → Bool) (ts : List Telegram) (a c : ℕ) (t u : Telegram) → a < c → At (kept_from i missed ts) a t → At (kept_from i missed ts) c u → (b e : ℕ) × (b < e) × At ts b t × At ts e u
kept-order i missed [] a c t u lt h k = absurd (none-some t h)
kept-order i missed (x ∷ ts) a c t u lt h k = go (λ a c lt h k. let r = kept-order (suc i) missed ts a c t u lt h k in let less = r.2 in (suc r.0, suc r.1, omega arith, r.3, r.4)) (missed i) a c lt h k
  where
    go : ((a c : ℕ) → a < c → At (kept_from (suc i) missed ts) a t → At (kept_from (suc i) missed ts) c u → (b e : ℕ) × (b < e) × At (x ∷ ts) b t × At (x ∷ ts) e u) → (m : Bool) → (a c : ℕ) → a < c → At (cond m (kept_from (suc i) missed ts) (x ∷ kept_from (suc i) missed ts)) a t → At (cond m (kept_from (suc i) missed ts) (x ∷ kept_from (suc i) missed ts)) c u → (b e : ℕ) × (b < e) × At (x ∷ ts) b t × At (x ∷ ts) e u
    go ih true a c lt h k = ih a c lt h k
    go ih false zero zero lt h k = absurd (omega arith)
    go ih false zero (suc c) lt h k = let r = kept-at (suc i) missed ts c u k in (0, suc r.0, omega arith, h, r.1)
    go ih false (suc a) zero lt h k = absurd (omega arith)
    go ih false (suc a) (suc c) lt h k = ih a c (omega arith) h k

-- ---- in both directions

-- the first place is passed before the second
abbrev pub IsPassedBefore : Run → ℕ → ℕ → Type 0
IsPassedBefore runs.Nominal b c = b < c
IsPassedBefore runs.Reverse b c = c < b

module _ (group : List Telegram) (missed : ℕ → Bool) where
  in_kept : (a : ℕ) (t : Telegram) → At (kept missed group) a t → (b : ℕ) × At group b t × (missed b ≡ false)
  in_kept a t h =
      let k : At (kept_from 0 missed group) a t = rw (← kept-is missed group) h in
      let r = kept-at 0 missed group a t k in
      let s : 0 + r.0 ≡ r.0 = omega arith in
      (r.0, r.1, ap missed (sym s) ∙ r.2)

  to_kept : (b : ℕ) (t : Telegram) → At group b t → missed b ≡ false → (a : ℕ) × At (kept missed group) a t
  to_kept b t h m =
      let s : 0 + b ≡ b = omega arith in
      let r = at-kept 0 missed group b t h (ap missed s ∙ m) in
      (r.0, rw (kept-is missed group) r.1)

  ordered : (i j : ℕ) (t u : Telegram) → i < j → At (kept missed group) i t → At (kept missed group) j u → (b c : ℕ) × (b < c) × At group b t × At group c u
  ordered i j t u lt h k =
      let h' : At (kept_from 0 missed group) i t = rw (← kept-is missed group) h in
      let k' : At (kept_from 0 missed group) j u = rw (← kept-is missed group) k in
      kept-order 0 missed group i j t u lt h' k'

  pub reading-at : (run : Run) (a : ℕ) (t : Telegram) → At (group_reading run missed group) a t → (b : ℕ) × At group b t × (missed b ≡ false)
  reading-at runs.Nominal a t h = in_kept a t h
  reading-at runs.Reverse a t h = let q = At-reverse (kept missed group) a t h in in_kept q.0 t q.1

  pub at-reading : (run : Run) (b : ℕ) (t : Telegram) → At group b t → missed b ≡ false → (a : ℕ) × At (group_reading run missed group) a t
  at-reading runs.Nominal b t h m = to_kept b t h m
  at-reading runs.Reverse b t h m = let r = to_kept b t h m in reversed (kept missed group) r.0 t r.1
    where
      reversed : (xs : List Telegram) (i : ℕ) (x : Telegram) → At xs i x → (j : ℕ) × At (reverse xs) j x
      reversed xs i x h = let h' : At (reverse (reverse xs)) i x = rw reverse-reverse h in let r = At-reverse (reverse xs) i x h' in (r.0, r.1)

  pub reading-order : (run : Run) (i j : ℕ) (t u : Telegram) → i < j → At (group_reading run missed group) i t → At (group_reading run missed group) j u → (b c : ℕ) × IsPassedBefore run b c × At group b t × At group c u
  reading-order runs.Nominal i j t u lt h k = ordered i j t u lt h k
  reading-order runs.Reverse i j t u lt h k =
      let p = At-reverse (kept missed group) i t h in
      let q = At-reverse (kept missed group) j u k in
      let e = p.2 in
      let f = q.2 in
      let r = ordered q.0 p.0 u t (omega arith) q.1 p.1 in
      (r.1, r.0, r.2, r.4, r.3)

  -- if all is missed, nothing is read
  pub all_missed : (run : Run) → ((b : ℕ) → b < length group → IsTrue (missed b)) → group_reading run missed group ≡ []
  all_missed run h = go (group_reading run missed group) refl
    where
      go : (s : List Telegram) → group_reading run missed group ≡ s → s ≡ []
      go [] e = refl
      go (t ∷ ts) e =
          let at : At (group_reading run missed group) 0 t = rw e refl in
          let r = reading-at run 0 t at in
          absurd (both_ways (missed r.0) r.2 (h r.0 (slice_get_within group r.0 t r.1)))

  -- if one is not missed, something is read
  pub reading-some : (run : Run) (b : ℕ) (t : Telegram) → At group b t → missed b ≡ false → group_reading run missed group ≢ []
  reading-some run b t at kept none =
      let r = at-reading run b t at kept in
      none-some t (sym (ap (λ (s : List Telegram). slice_get s r.0) none) ∙ r.1)
