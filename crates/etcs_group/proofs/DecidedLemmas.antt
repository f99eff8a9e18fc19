-- In a well-formed group, which readings are accepted, and how the others are refused.
use Rattle.std.proofs.Common.{◌≡◌, ℕ, ◌+◌, ◌<◌, Bool, true, false, eqb, ◌||◌, List, length, Option, Some, None, refl, sym, ap, subst, ◌∙◌, arith, option_map, IsTrue, IsFalse, IsSomeAnd, MatchOption}
use Rattle.std.specs.Bool.{⊤}
use Rattle.std.proofs.lemmas.Option.{slice_get_within}
use Rattle.std.proofs.lemmas.Bool.{or_from, or_left, or_right, lt-ltb, not_from_true, not_from_false, eq-eqb, ne_eqb, false_from_ne_true, both_ways, cases_Bool}
use mathlib.Core.Logic.{◌⊎◌, inl, inr}
use Rattle.etcs_profile.specs.declared.run.Run.{Run}
use Rattle.etcs_profile.specs.declared.run.Run.TheVariants as runs
use Rattle.etcs_telegram.specs.Record.{Telegram}
use Rattle.etcs_group.specs.declared.refused.Refused.TheVariants as reasons
use Rattle.etcs_group.specs.Places.{At, least, IsLeast}
use Rattle.etcs_group.specs.Group.{named_neighbour, partner_place, AreAlike, IsWellFormed, HasOneCounter}
use Rattle.etcs_group.specs.Missed.{IsSetOf, IsCovered, IsLost}
use Rattle.etcs_group.specs.Reading.{group_reading}
use Rattle.etcs_group.specs.Assembly.{are_in_order, names, header_disagrees, is_misplaced, is_absent, position_count, first_refusal}
use Rattle.etcs_group.specs.Laws.{ReadingsAreDecided}
use Rattle.etcs_group.proofs.PlaceLemmas.{some_at, at_list_any, list_any-none, least-none, least-some, least-none_says}
use Rattle.etcs_group.proofs.ReadingLemmas.{reading-at, at-reading, reading-order, all_missed, IsPassedBefore}
use Rattle.etcs_group.proofs.MarkLemmas.{named-from_test, test_from-named, partner-says, partner-is}
use Rattle.etcs_group.proofs.RefusalLemmas.{alike-both, disagrees-none, misplaced-none, miscounted-none, map-none, refusal-nothing, refusal-absent, positions-at, refusal-from_accepted, accepted_from-refusal}

-- the telegram has this position, or its duplicate flag names it
abbrev stands_for : Telegram → ℕ → Bool
stands_for t p = eqb t.header.position p || names t p

module _ (run : Run) (group : List Telegram) (missed : ℕ → Bool) (formed : IsWellFormed group) where
  -- ---- only a position can be missing

  like_first : (i : ℕ) (t first : Telegram) → At group 0 first → At (group_reading run missed group) i t → AreAlike t first × (t.header.total + 1 ≡ length group)
  like_first i t first at e =
      let p = reading-at group missed run i t e in
      (formed.alike p.0 t first p.1 at, formed.counted p.0 t p.1)

  first_of : (i : ℕ) (t : Telegram) → At (group_reading run missed group) i t → (first : Telegram) × At group 0 first
  first_of i t e =
      let p = reading-at group missed run i t e in
      let within : p.0 < length group = slice_get_within group p.0 t p.1 in
      some_at group 0 (omega arith)

  read_disagrees : (i : ℕ) → header_disagrees (group_reading run missed group) i ≡ false
  read_disagrees = disagrees-none (group_reading run missed group)
      (λ i j t u e f.
      let first = first_of i t e in
      alike-both t u first.0 (like_first i t first.0 first.1 e).0 (like_first j u first.0 first.1 f).0)
      (λ i j t u e f.
      let first = first_of i t e in
      let m = (like_first i t first.0 first.1 e).1 in
      let n = (like_first j u first.0 first.1 f).1 in
      omega arith)

  read_after : (run : Run) (b c : ℕ) (t u : Telegram) → t.header.position ≡ b → u.header.position ≡ c → IsPassedBefore run b c → are_in_order run t u ≡ true
  read_after runs.Nominal b c t u e f lt = lt-ltb _ _ (omega arith)
  read_after runs.Reverse b c t u e f lt = lt-ltb _ _ (omega arith)

  read_misplaced : (i : ℕ) → is_misplaced run (group_reading run missed group) i ≡ false
  read_misplaced = misplaced-none run (group_reading run missed group)
      (λ i t e. let p = reading-at group missed run i t e in
      let w = slice_get_within group p.0 t p.1 in
      let m = formed.counted p.0 t p.1 in
      let n = formed.placed p.0 t p.1 in omega arith)
      (λ i j t u lt e f. let r = reading-order group missed run i j t u lt e f in
      read_after run r.0 r.1 t u (formed.placed r.0 t r.3) (formed.placed r.1 u r.4) r.2)

  read_counters : HasOneCounter group → HasOneCounter (group_reading run missed group)
  read_counters one = record {
    agrees = λ i t e. let p = reading-at group missed run i t e in one.agrees p.0 t p.1;
    equal = λ i j t u e f m n.
        let p = reading-at group missed run i t e in
        let q = reading-at group missed run j u f in
        one.equal p.0 q.0 t u p.1 q.1 m n;
  }

  read_positions : 0 < length (group_reading run missed group) → position_count (group_reading run missed group) ≡ length group
  read_positions long =
      let first = some_at (group_reading run missed group) 0 long in
      let p = reading-at group missed run 0 first.0 first.1 in
      positions-at (group_reading run missed group) first.0 first.1 ∙ formed.counted p.0 first.0 p.1

  -- ---- a position is absent if and only if its balise is lost

  absent-lost : (b : ℕ) → b < length group → IsLost group missed b → is_absent (group_reading run missed group) b ≡ true
  absent-lost b lt h = not_from_false _ (list_any-none (λ u. stands_for u b) (group_reading run missed group) (λ i u e.
      let q = reading-at group missed run i u e in
      let placed = formed.placed q.0 u q.1 in
      or_from _ _
      (ne_eqb _ _ (λ same. let here : q.0 ≡ b = sym placed ∙ same in both_ways (missed b) (ap missed (sym here) ∙ q.2) h.0))
      (false_from_ne_true _ (λ test.
      let n : named_neighbour u.header.dup q.0 ≡ Some b = ap (named_neighbour u.header.dup) (sym placed) ∙ named-from_test u.header.dup u.header.position b test in
      let back : partner_place group b ≡ Some q.0 = formed.answered q.0 b (partner-is group q.0 b u q.1 n lt) in
      let gone : missed q.0 ≡ true = subst (λ o. MatchOption o ⊤ (λ p. IsTrue (missed p))) back h.1 in
      both_ways (missed q.0) q.2 gone))))

  there-read : (b : ℕ) → b < length group → missed b ≡ false → is_absent (group_reading run missed group) b ≡ false
  there-read b lt m =
      let t = some_at group b lt in
      let r = at-reading group missed run b t.0 t.1 m in
      not_from_true _ (at_list_any (λ u. stands_for u b) (group_reading run missed group) r.0 t.0 r.1 (or_left _ _ (eq-eqb _ _ (formed.placed b t.0 t.1))))

  there-named : (b q : ℕ) → partner_place group b ≡ Some q → missed q ≡ false → is_absent (group_reading run missed group) b ≡ false
  there-named b q e m =
      let back = partner-says group q b (formed.answered b q e) in
      let r = at-reading group missed run q back.0 back.1 m in
      let n : named_neighbour back.0.header.dup back.0.header.position ≡ Some b = ap (named_neighbour back.0.header.dup) (formed.placed q back.0 back.1) ∙ back.2 in
      not_from_true _ (at_list_any (λ u. stands_for u b) (group_reading run missed group) r.0 back.0 r.1 (or_right _ _ (test_from-named back.0.header.dup back.0.header.position b n)))

  -- each place is lost, or its position is there
  lost_or_there : (b : ℕ) → b < length group → IsLost group missed b ⊎ (is_absent (group_reading run missed group) b ≡ false)
  lost_or_there b lt = elim (cases_Bool (missed b)) [
    | inr kept ↦ inr (there-read b lt kept)
    | inl gone ↦ by_partner gone (partner_place group b) refl
  ]
    where
      by_missed : missed b ≡ true → (q : ℕ) → partner_place group b ≡ Some q → IsLost group missed b ⊎ (is_absent (group_reading run missed group) b ≡ false)
      by_missed gone q e = elim (cases_Bool (missed q)) [
        | inl both ↦ inl (gone, rw e both)
        | inr one ↦ inr (there-named b q e one)
      ]

      by_partner : missed b ≡ true → (o : Option ℕ) → partner_place group b ≡ o → IsLost group missed b ⊎ (is_absent (group_reading run missed group) b ≡ false)
      by_partner gone None e = inl (gone, rw e tt)
      by_partner gone (Some q) e = by_missed gone q e

-- ---- a set is covered if and only if no place is lost

covered_lost : (group : List Telegram) (missed : ℕ → Bool) (b : ℕ) → IsCovered group missed → IsLost group missed b → ⊥
covered_lost group missed b h lost = go (partner_place group b) (h b lost.0) lost.1
  where
    go : (o : Option ℕ) → IsSomeAnd o (λ q. IsFalse (missed q)) → MatchOption o ⊤ (λ q. IsTrue (missed q)) → ⊥
    go None a c = a
    go (Some q) a c = both_ways (missed q) a c

none_lost_covered : (group : List Telegram) (missed : ℕ → Bool) → IsSetOf group missed → ((b : ℕ) → b < length group → IsLost group missed b → ⊥) → IsCovered group missed
none_lost_covered group missed set h b m = go (partner_place group b) refl
  where
    go : (o : Option ℕ) → partner_place group b ≡ o → IsSomeAnd o (λ q. IsFalse (missed q))
    go None e = absurd (h b (set b m) (m, rw e tt))
    go (Some q) e = false_from_ne_true (missed q) (λ t. h b (set b m) (m, rw e t))

-- ---- the law

pub readings_are_decided : ReadingsAreDecided
readings_are_decided run group missed formed one long set = record {
  accepted = (
    λ a. covered_if_none (refusal-from_accepted run s a) a.some,
    λ c. accepted_from-refusal run s (by_refusal (reads c) ∙ ap (option_map reasons.Absent) (least-none (length group) (is_absent s) (λ b lt. there c b lt))),
  );
  nothing = λ all. refusal-nothing run s (all_missed group missed run all);
  absent = λ b lt kept uncovered. found uncovered (reads_at b lt kept) (least (length group) (is_absent s)) refl;
}
  where
    s : List Telegram
    s = group_reading run missed group

    by_refusal : 0 < length s → first_refusal run s ≡ option_map reasons.Absent (least (length group) (is_absent s))
    by_refusal lt =
        refusal-absent run s lt (read_disagrees run group missed formed) (read_misplaced run group missed formed) (miscounted-none s (read_counters run group missed formed one))
        ∙ ap (λ n. option_map reasons.Absent (least n (is_absent s))) (read_positions run group missed formed lt)

    there : IsCovered group missed → (b : ℕ) → b < length group → is_absent s b ≡ false
    there c b lt = elim (lost_or_there run group missed formed b lt) [ inl lost ↦ absurd (covered_lost group missed b c lost) | inr is ↦ is ]

    reads_at : (b : ℕ) → b < length group → missed b ≡ false → 0 < length s
    reads_at b lt m =
        let t = some_at group b lt in
        let r = at-reading group missed run b t.0 t.1 m in
        let w = slice_get_within s r.0 t.0 r.1 in omega arith

    reads : IsCovered group missed → 0 < length s
    reads c = elim (cases_Bool (missed 0)) [ inr m ↦ reads_at 0 long m | inl m ↦ partner_read (partner_place group 0) refl (c 0 m) ]
      where
        partner_read : (o : Option ℕ) → partner_place group 0 ≡ o → IsSomeAnd o (λ q. IsFalse (missed q)) → 0 < length s
        partner_read None e h = absurd h
        partner_read (Some q) e h = let p = partner-says group 0 q e in reads_at q p.3 h

    covered_by_least : least (length group) (is_absent s) ≡ None → IsCovered group missed
    covered_by_least e = none_lost_covered group missed set (λ b lt lost.
        both_ways _ (least-none_says (length group) (is_absent s) e b lt) (absent-lost run group missed formed b lt lost))

    covered_if_none : first_refusal run s ≡ None → 0 < length s → IsCovered group missed
    covered_if_none e lt = covered_by_least (map-none reasons.Absent (least (length group) (is_absent s)) (sym (by_refusal lt) ∙ e))

    found : (IsCovered group missed → ⊥) → 0 < length s → (o : Option ℕ) → least (length group) (is_absent s) ≡ o → (p : ℕ) × IsLeast (IsLost group missed) p × (first_refusal run s ≡ Some (reasons.Absent p))
    found uncovered lt None e = absurd (uncovered (covered_by_least e))
    found uncovered lt (Some k) e =
        let r = least-some (length group) k (is_absent s) e in
        let within = r.0 in
        (k, (is_lost k within r.1, λ j less lost. both_ways _ (r.2 j less) (absent-lost run group missed formed j (omega arith) lost)), by_refusal lt ∙ ap (option_map reasons.Absent) e)
      where
        is_lost : (b : ℕ) → b < length group → is_absent s b ≡ true → IsLost group missed b
        is_lost b lt a = elim (lost_or_there run group missed formed b lt) [ inl lost ↦ lost | inr is ↦ absurd (both_ways _ is a) ]
