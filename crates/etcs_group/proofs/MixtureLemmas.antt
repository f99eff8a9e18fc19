-- A mixture is accepted if and only if it is covered and one aspect has all that it shows.
use Rattle.std.proofs.Common.{◌≡◌, ◌≢◌, ℕ, zero, suc, ◌+◌, ◌-◌, ◌*◌, ◌^◌, ◌%◌, ◌<◌, ◌≤◌, eqb, bit_or, w8, Bool, true, false, not, cond, ◌&&◌, ltb, List, [], ◌∷◌, ◌++◌, length, reverse, get_or, slice_get, Option, Some, None, is_none, is_some, option_and_then, IsFalse, IsSomeAnd, refl, sym, ap, subst, ◌∙◌, arith, add-one}
use Rattle.std.specs.List.{cons_option, filter_map, range_with_len}
use Rattle.std.specs.Option.{option_map_or}
use Rattle.std.proofs.lemmas.Option.{none-some, same_Some, slice_get_past, slice_get_within}
use Rattle.std.proofs.lemmas.Bool.{both_ways, cases_eq, cases_lt, lt-ltb, le-ltb, ltb-true, and_parts}
use Rattle.std.proofs.lemmas.List.{append_assoc, append-nil, reverse-reverse}
use Rattle.std.proofs.lemmas.Nat.Bits.{bit_at_set_same, bit_at_set_other}
use mathlib.Core.Logic.{inl, inr}
use Rattle.etcs_profile.specs.declared.run.Run.{Run}
use Rattle.etcs_profile.specs.declared.run.Run.TheVariants as runs
use Rattle.etcs_telegram.specs.Record.{Telegram}
use Rattle.etcs_group.specs.Places.{At, least}
use Rattle.etcs_group.specs.Group.{named_neighbour, partner_place, HasOneCounter}
use Rattle.etcs_group.specs.Missed.{is_missed, IsSetOf, IsCovered, none_missed}
use Rattle.etcs_group.specs.Reading.{in_passing_order, group_reading}
use Rattle.etcs_group.specs.Assembly.{IsAccepted}
use Rattle.etcs_group.specs.Packets.{assembled}
use Rattle.etcs_group.specs.Controlled.{balise_count, IsControlled, Shows, IsFixed, AreOneGroup}
use Rattle.etcs_group.specs.Mixture.{shown_aspect, Fits, shows_nothing, shown_telegram, mixture_reading, HasAllShown}
use Rattle.etcs_group.specs.Laws.{IsDecided, MakesOneMessage, IsMixtureDecided, MixturesAreDecided}
use Rattle.etcs_group.proofs.PlaceLemmas.{some_at, one_at, At-reverse, least-some, least-none_says}
use Rattle.etcs_group.proofs.ReadingLemmas.{kept_from, kept-is, at-reading}
use Rattle.etcs_group.proofs.DecidedLemmas.{readings_are_decided}

-- ---- only duplicate flags decide partners, and so what is covered

-- the place, if it is below n: the test of `partner_place`
abbrev below : ℕ → ℕ → Option ℕ
below n q = cond (ltb q n) (Some q) None

partner-at : (group : List Telegram) (p : ℕ) (t : Telegram) → At group p t → partner_place group p ≡ option_and_then (below (length group)) (named_neighbour t.header.dup p)
partner-at group p t at = ap (λ o. option_and_then (below (length group)) (option_and_then (λ (t : Telegram). named_neighbour t.header.dup p) o)) at

partner-past : (group : List Telegram) (p : ℕ) → length group ≤ p → partner_place group p ≡ None
partner-past group p le = ap (λ o. option_and_then (below (length group)) (option_and_then (λ (t : Telegram). named_neighbour t.header.dup p) o)) (slice_get_past group p le)

module _ (g h : List Telegram) (long : length g ≡ length h) (marks : (p : ℕ) (t u : Telegram) → At g p t → At h p u → t.header.dup ≡ u.header.dup) where
  partner-same : (p : ℕ) → partner_place g p ≡ partner_place h p
  partner-same p = elim (cases_lt p (length g)) [
    | inl lt ↦
        let x = some_at g p lt in
        let y = some_at h p (omega arith) in
        partner-at g p x.0 x.1
        ∙ ap (λ m. option_and_then (below (length g)) (named_neighbour m p)) (marks p x.0 y.0 x.1 y.1)
        ∙ ap (λ n. option_and_then (below n) (named_neighbour y.0.header.dup p)) long
        ∙ sym (partner-at h p y.0 y.1)
    | inr ge ↦ partner-past g p ge ∙ sym (partner-past h p (omega arith))
  ]

  covered-same : (missed : ℕ → Bool) → IsCovered g missed → IsCovered h missed
  covered-same missed covered p m = subst (λ o. IsSomeAnd o (λ q. IsFalse (missed q))) (partner-same p) (covered p m)

-- ---- the counters of a group that makes one message fit

one_counter : (group : List Telegram) → MakesOneMessage group → HasOneCounter group
one_counter group makes = record {
  agrees = λ i t at. let r = at-reading group none_missed runs.Nominal i t at refl in full.one_counter.agrees r.0 t r.1;
  equal = λ i j t u at at' low low'.
      let r = at-reading group none_missed runs.Nominal i t at refl in
      let q = at-reading group none_missed runs.Nominal j u at' refl in
      full.one_counter.equal r.0 q.0 t u r.1 q.1 low low';
}
  where
    full : IsAccepted runs.Nominal (group_reading runs.Nominal none_missed group)
    full = makes.accepted runs.Nominal none_missed (λ b m. absurd (both_ways false refl m)) (λ b m. absurd (both_ways false refl m))

-- ---- what is shown, place by place

-- what the n places from i on show
abbrev pub mixed_from : List (List Telegram) → (ℕ → Option ℕ) → ℕ → ℕ → List Telegram
mixed_from aspects shown i zero = []
mixed_from aspects shown i (suc n) = cons_option (shown_telegram aspects shown i) (mixed_from aspects shown (suc i) n)

pub mixed-from : (aspects : List (List Telegram)) (shown : ℕ → Option ℕ) (i n : ℕ) → filter_map (shown_telegram aspects shown) (range_with_len i n) ≡ mixed_from aspects shown i n
mixed-from aspects shown i zero = refl
mixed-from aspects shown i (suc n) =
    ap (λ k. cons_option (shown_telegram aspects shown i) (filter_map (shown_telegram aspects shown) (range_with_len k n))) (add-one i)
    ∙ ap (cons_option (shown_telegram aspects shown i)) (mixed-from aspects shown (suc i) n)

-- what a telegram that is shown adds
pub At-cons_option : {X : Type 0} (o : Option X) (xs : List X) (i : ℕ) (x : X) → At xs i x → (j : ℕ) × At (cons_option o xs) j x
At-cons_option None xs i x at = (i, at)
At-cons_option (Some y) xs i x at = (suc i, at)

at-in_passing_order : {X : Type 0} (run : Run) (xs : List X) (i : ℕ) (x : X) → At xs i x → (j : ℕ) × At (in_passing_order run xs) j x
at-in_passing_order runs.Nominal xs i x at = (i, at)
at-in_passing_order runs.Reverse xs i x at = let back : At (reverse (reverse xs)) i x = rw reverse-reverse at in let r = At-reverse (reverse xs) i x back in (r.0, r.1)

-- the telegram that aspect a has at place p
abbrev pub telegram_at : List (List Telegram) → ℕ → ℕ → Option Telegram
telegram_at aspects p a = option_and_then (λ (group : List Telegram). slice_get group p) (slice_get aspects a)

module _ (aspects : List (List Telegram)) (shown : ℕ → Option ℕ) (is : IsControlled aspects) (fit : Fits aspects shown) where
  -- a place that shows an aspect shows a telegram of it
  pub place_shows : (p a : ℕ) → shown p ≡ Some a → (t : Telegram) × Shows aspects a p t × (shown_telegram aspects shown p ≡ Some t) × (p < balise_count aspects)
  place_shows p a e =
      let f = fit p a e in
      let g = some_at aspects a f.1 in
      let long = is.counts a g.0 g.1 in
      let lt = f.0 in
      let t = some_at g.0 p (omega arith) in
      (t.0, (g.0, g.1, t.1), ap (option_and_then (telegram_at aspects p)) e ∙ ap (option_and_then (λ (group : List Telegram). slice_get group p)) g.1 ∙ t.1, f.0)

  -- what a place shows is a telegram of the aspect that it names
  shows_place : (p : ℕ) (t : Telegram) → shown_telegram aspects shown p ≡ Some t → (a : ℕ) × (shown p ≡ Some a) × Shows aspects a p t × (p < balise_count aspects)
  shows_place p t h = go (shown p) refl
    where
      go : (o : Option ℕ) → shown p ≡ o → (a : ℕ) × (shown p ≡ Some a) × Shows aspects a p t × (p < balise_count aspects)
      go None e = absurd (none-some t (sym (ap (option_and_then (telegram_at aspects p)) e) ∙ h))
      go (Some a) e =
          let s = place_shows p a e in
          let same : s.0 ≡ t = same_Some s.0 t (sym s.2 ∙ h) in
          (a, e, subst (Shows aspects a p) same s.1, s.3)

  -- ---- if one aspect has all that is shown, the mixture is a reading of it

  module _ (group : List Telegram) (long : length group ≡ balise_count aspects) (all : HasAllShown aspects shown group) where
    mixed_kept : (i : ℕ) (ts : List Telegram) → i + length ts ≡ balise_count aspects → ((k : ℕ) (t : Telegram) → At ts k t → At group (i + k) t) → mixed_from aspects shown i (length ts) ≡ kept_from i (shows_nothing aspects shown) ts
    mixed_kept i [] le rest = refl
    mixed_kept i (t ∷ ts) le rest =
        go (mixed_kept (suc i) ts (omega arith) (λ k u at. let z : i + suc k ≡ suc i + k = omega arith in subst (λ m. At group m u) z (rest (suc k) u at))) (lt-ltb i (balise_count aspects) (omega arith)) (shown i) refl
      where
        go : mixed_from aspects shown (suc i) (length ts) ≡ kept_from (suc i) (shows_nothing aspects shown) ts → ltb i (balise_count aspects) ≡ true → (o : Option ℕ) → shown i ≡ o → cons_option (shown_telegram aspects shown i) (mixed_from aspects shown (suc i) (length ts)) ≡ cond (shows_nothing aspects shown i) (kept_from (suc i) (shows_nothing aspects shown) ts) (t ∷ kept_from (suc i) (shows_nothing aspects shown) ts)
        go ih inside None e =
            let m : shows_nothing aspects shown i ≡ true = ap (λ b. b && is_none (shown i)) inside ∙ ap is_none e in
            let s : shown_telegram aspects shown i ≡ None = ap (option_and_then (telegram_at aspects i)) e in
            rw (m, s) ih
        go ih inside (Some a) e =
            let m : shows_nothing aspects shown i ≡ false = ap (λ b. b && is_none (shown i)) inside ∙ ap is_none e in
            let s = place_shows i a e in
            let z : i + 0 ≡ i = omega arith in
            let same : s.0 ≡ t = same_Some s.0 t (sym (all i s.0 s.2) ∙ subst (λ j. At group j t) z (rest 0 t refl)) in
            let s' : shown_telegram aspects shown i ≡ Some t = s.2 ∙ ap Some same in
            rw (m, s') (ap (λ l. t ∷ l) ih)

    mixed_reading : (run : Run) → mixture_reading run aspects shown ≡ group_reading run (shows_nothing aspects shown) group
    mixed_reading run =
        let whole : 0 + length group ≡ balise_count aspects = omega arith in
        ap (in_passing_order run) (
        mixed-from aspects shown 0 (balise_count aspects)
        ∙ ap (mixed_from aspects shown 0) (sym long)
        ∙ mixed_kept 0 group whole (λ k t at. let z : k ≡ 0 + k = omega arith in subst (λ j. At group j t) z at)
        ∙ sym (kept-is (shows_nothing aspects shown) group)
        )

  missed_set : (group : List Telegram) → length group ≡ balise_count aspects → IsSetOf group (shows_nothing aspects shown)
  missed_set group long p m = let x = ltb-true p (balise_count aspects) (and_parts (ltb p (balise_count aspects)) _ m).0 in omega arith

  -- what is shown is read
  shown_read_from : (i m p : ℕ) (t : Telegram) → p < m → shown_telegram aspects shown (i + p) ≡ Some t → (k : ℕ) × At (mixed_from aspects shown i m) k t
  shown_read_from i zero p t lt h = absurd (omega arith)
  shown_read_from i (suc m) zero t lt h =
      let z : i + 0 ≡ i = omega arith in
      let s : shown_telegram aspects shown i ≡ Some t = subst (λ j. shown_telegram aspects shown j ≡ Some t) z h in
      (0, rw s refl)
  shown_read_from i (suc m) (suc p) t lt h =
      let z : i + suc p ≡ suc i + p = omega arith in
      let r = shown_read_from (suc i) m p t (omega arith) (subst (λ j. shown_telegram aspects shown j ≡ Some t) z h) in
      At-cons_option (shown_telegram aspects shown i) _ r.0 t r.1

  shown_read : (run : Run) (p : ℕ) (t : Telegram) → shown_telegram aspects shown p ≡ Some t → (k : ℕ) × At (mixture_reading run aspects shown) k t
  shown_read run p t h =
      let s = shows_place p t h in
      let z : p ≡ 0 + p = omega arith in
      let r = shown_read_from 0 (balise_count aspects) p t s.3 (subst (λ j. shown_telegram aspects shown j ≡ Some t) z h) in
      at-in_passing_order run (filter_map (shown_telegram aspects shown) (range_with_len 0 (balise_count aspects))) r.0 t (rw (mixed-from aspects shown 0 (balise_count aspects)) r.1)

  -- ---- an accepted mixture shows one aspect

  module _ (one : AreOneGroup aspects) (run : Run) where
    is_switched : ℕ → Bool
    is_switched p = option_map_or (λ (t : Telegram). ltb t.header.counter 254) (shown_telegram aspects shown p) false

    -- two shown places whose counters are below 254 show one aspect
    one_aspect : IsAccepted run (mixture_reading run aspects shown) → (p q a b : ℕ) (t u : Telegram) → shown_telegram aspects shown p ≡ Some t → shown_telegram aspects shown q ≡ Some u → Shows aspects a p t → Shows aspects b q u → t.header.counter < 254 → u.header.counter < 254 → a ≡ b
    one_aspect accepted p q a b t u h h' s s' low low' =
        let i = shown_read run p t h in
        let j = shown_read run q u h' in
        elim (cases_eq a b) [
          | inl e ↦ e
          | inr ne ↦ absurd (one.distinct a b p q t u ne s s' low low' (accepted.one_counter.equal i.0 j.0 t u i.1 j.1 low low'))
        ]

    -- a fixed place shows the telegram that is there in every aspect
    fixed_at : (q b a : ℕ) (group : List Telegram) (u : Telegram) → At aspects a group → Shows aspects b q u → q < balise_count aspects → IsFixed aspects q → At group q u
    fixed_at q b a group u at s lt fixed =
        let long = is.counts a group at in
        let x = some_at group q (omega arith) in
        subst (At group q) (fixed a b x.0 u (group, at, x.1) s).0 x.1

    some_aspect : IsAccepted run (mixture_reading run aspects shown) → (a : ℕ) × (group : List Telegram) × At aspects a group × HasAllShown aspects shown group
    unfolding is_switched
    some_aspect accepted = go (least (balise_count aspects) is_switched) refl
      where
        go : (o : Option ℕ) → least (balise_count aspects) is_switched ≡ o → (a : ℕ) × (group : List Telegram) × At aspects a group × HasAllShown aspects shown group
        go None e =
            let first = some_at aspects 0 is.some in (
              0,
              first.0,
              first.1,
              λ q u h.
                  let s = shows_place q u h in
                  let not_low : ltb u.header.counter 254 ≡ false = sym (ap (λ o. option_map_or (λ (t : Telegram). ltb t.header.counter 254) o false) h) ∙ least-none_says (balise_count aspects) is_switched e q s.3 in
                  elim (one.fixed_or_switched q) [
                    | inl fixed ↦ fixed_at q s.0 0 first.0 u first.1 s.2 s.3 fixed
                    | inr switched ↦ absurd (both_ways _ not_low (lt-ltb _ _ (switched s.0 u s.2)))
                  ],
            )
        go (Some p) e =
            let l = least-some (balise_count aspects) p is_switched e in
            let t = low_at (shown_telegram aspects shown p) refl l.1 in
            let s = shows_place p t.0 t.1 in
            let group = s.2.0 in (
              s.0,
              group,
              s.2.1,
              λ q u h.
                  let s' = shows_place q u h in
                  elim (one.fixed_or_switched q) [
                    | inl fixed ↦ fixed_at q s'.0 s.0 group u s.2.1 s'.2 s'.3 fixed
                    | inr switched ↦
                        let same_aspect = one_aspect accepted p q s.0 s'.0 t.0 u t.1 h s.2 s'.2 t.2 (switched s'.0 u s'.2) in
                        let there : At aspects s.0 s'.2.0 = subst (λ a. At aspects a s'.2.0) (sym same_aspect) s'.2.1 in
                        let same : s'.2.0 ≡ group = same_Some s'.2.0 group (sym there ∙ s.2.1) in
                        subst (λ (g : List Telegram). At g q u) same s'.2.2
                  ],
            )
          where
            low_at : (o : Option Telegram) → shown_telegram aspects shown p ≡ o → option_map_or (λ (t : Telegram). ltb t.header.counter 254) o false ≡ true → (t : Telegram) × (shown_telegram aspects shown p ≡ Some t) × (t.header.counter < 254)
            low_at None h low = absurd (both_ways false refl low)
            low_at (Some t) h low = (t, h, ltb-true _ _ low)

  -- ---- the law, if duplicate flags are the same in all aspects, and an accepted mixture shows one of them

  module _ (run : Run) (marks : (a b p : ℕ) (t u : Telegram) → Shows aspects a p t → Shows aspects b p u → t.header.dup ≡ u.header.dup) (some : IsAccepted run (mixture_reading run aspects shown) → (a : ℕ) × (group : List Telegram) × At aspects a group × HasAllShown aspects shown group) (each : (a : ℕ) (group : List Telegram) → At aspects a group → MakesOneMessage group) where
    marks_of : (a b : ℕ) (g h : List Telegram) → At aspects a g → At aspects b h → (p : ℕ) (t u : Telegram) → At g p t → At h p u → t.header.dup ≡ u.header.dup
    marks_of a b g h at at' p t u x y = marks a b p t u (g, at, x) (h, at', y)

    decided_in : (a : ℕ) (group : List Telegram) → At aspects a group → IsDecided run group (shows_nothing aspects shown) (group_reading run (shows_nothing aspects shown) group)
    decided_in a group at =
        let long = is.counts a group at in
        let some = is.balises in
        readings_are_decided run group (shows_nothing aspects shown) (each a group at).formed (one_counter group (each a group at)) (omega arith) (missed_set group long)

    pub mixture_is_decided : IsMixtureDecided run aspects shown
    mixture_is_decided = record {
      accepted = (
        λ accepted.
            let r = some accepted in
            let long = is.counts r.0 r.1 r.2 in
            let covered = (decided_in r.0 r.1 r.2).accepted.0 (subst (IsAccepted run) (mixed_reading r.1 long r.3 run) accepted) in
            (λ first at. covered-same r.1 first (long ∙ sym (is.counts 0 first at)) (marks_of r.0 0 r.1 first r.2 at) (shows_nothing aspects shown) covered, r),
        λ both.
            let r = both.1 in
            let long = is.counts r.0 r.1 r.2 in
            let first = some_at aspects 0 is.some in
            let covered = covered-same first.0 r.1 (is.counts 0 first.0 first.1 ∙ sym long) (marks_of 0 r.0 first.0 r.1 first.1 r.2) (shows_nothing aspects shown) (both.0 first.0 first.1) in
            subst (IsAccepted run) (sym (mixed_reading r.1 long r.3 run)) ((decided_in r.0 r.1 r.2).accepted.1 covered),
      );
      packets = λ a group at all accepted.
          let long = is.counts a group at in
          let eq = mixed_reading group long all run in
          let covered = (decided_in a group at).accepted.0 (subst (IsAccepted run) eq accepted) in
          ap (assembled run) eq ∙ (each a group at).same run (shows_nothing aspects shown) (missed_set group long) covered;
    }

  -- ---- only one aspect

  module _ (alone : length aspects ≤ 1) where
    -- it is the first
    is_first : (a p : ℕ) (t : Telegram) → Shows aspects a p t → (group : List Telegram) → At aspects 0 group → At group p t
    is_first a p t s group at =
        let within = slice_get_within aspects a s.0 s.1 in
        let zero_is : a ≡ 0 = omega arith in
        subst (λ (g : List Telegram). At g p t) (one_at aspects 0 s.0 group (subst (λ k. At aspects k s.0) zero_is s.1) at) s.2

    marks_alone : (a b p : ℕ) (t u : Telegram) → Shows aspects a p t → Shows aspects b p u → t.header.dup ≡ u.header.dup
    marks_alone a b p t u s s' =
        let first = some_at aspects 0 is.some in
        ap (λ (x : Telegram). x.header.dup) (one_at first.0 p t u (is_first a p t s first.0 first.1) (is_first b p u s' first.0 first.1))

    shows_alone : (a : ℕ) × (group : List Telegram) × At aspects a group × HasAllShown aspects shown group
    shows_alone =
        let first = some_at aspects 0 is.some in
        (0, first.0, first.1, λ p t h. let s = shows_place p t h in is_first s.0 p t s.2 first.0 first.1)

pub mixtures_are_decided : MixturesAreDecided
mixtures_are_decided run aspects shown is each one fit = elim (cases_lt 1 (length aspects)) [
  | inl several ↦ mixture_is_decided aspects shown is fit run (one several).marks (some_aspect aspects shown is fit (one several) run) each
  | inr alone ↦ mixture_is_decided aspects shown is fit run (marks_alone aspects shown is fit alone) (λ _. shows_alone aspects shown is fit alone) each
]

-- ---- the calls of a controlled group

-- what a place shows is the element there in the list, and none past its end
pub shown-is : (shown : List (Option ℕ)) (p : ℕ) → shown_aspect shown p ≡ get_or shown p None
shown-is [] p = refl
shown-is (o ∷ shown) zero = refl
shown-is (o ∷ shown) (suc p) = shown-is shown p

-- there are only eight places
pub shown-past : (shown : List (Option ℕ)) (p : ℕ) → length shown ≤ p → shown_aspect shown p ≡ None
shown-past shown p le = ap (option_and_then (λ (a : Option ℕ). a)) (slice_get_past shown p le)

-- one more place that fits
pub fit_more : (n k i : ℕ) (shown : ℕ → Option ℕ) → ((p a : ℕ) → p < i → shown p ≡ Some a → (p < n) × (a < k)) → ((a : ℕ) → shown i ≡ Some a → (i < n) × (a < k)) → (p a : ℕ) → p < i + 1 → shown p ≡ Some a → (p < n) × (a < k)
fit_more n k i shown before here p a lt e = elim (cases_lt p i) [
  | inl less ↦ before p a less e
  | inr ge ↦ let same : p ≡ i = omega arith in let r = here a (ap shown (sym same) ∙ e) in let w = r.0 in (omega arith, r.1)
]

-- ---- the bits of the places that show nothing

and-false : (b : Bool) → (b && false) ≡ false
and-false true = refl
and-false false = refl

-- another place is below i + 1 if and only if it is below i
same_below : (p i : ℕ) → p ≢ i → ltb p i ≡ ltb p (i + 1)
same_below p i ne = elim (cases_lt p i) [
  | inl lt ↦ lt-ltb p i lt ∙ sym (lt-ltb p (i + 1) (omega arith))
  | inr ge ↦ elim (cases_eq p i) [
    | inl e ↦ absurd (ne e)
    | inr _ ↦ le-ltb p i ge ∙ sym (le-ltb p (i + 1) (omega arith))
  ]
]

-- the bits of the places below i that show nothing
abbrev pub AreMissed : (ℕ → Option ℕ) → ℕ → ℕ → Type 0
AreMissed shown i bits = (p : ℕ) → is_missed bits p ≡ (ltb p i && is_none (shown p))

-- a test of a place in the list decides whether something is shown there
pub none-from_test : (shown : List (Option ℕ)) (i : ℕ) (none : Bool) → is_some (get_or shown i None) ≡ not none → is_none (shown_aspect shown i) ≡ none
none-from_test shown i none h = ap is_none (shown-is shown i) ∙ go (get_or shown i None) none h
  where
    go : (o : Option ℕ) (b : Bool) → is_some o ≡ not b → is_none o ≡ b
    go None true h = refl
    go None false h = absurd (both_ways false refl h)
    go (Some a) true h = absurd (both_ways true h refl)
    go (Some a) false h = refl

-- place i shows nothing, and its bit is set
pub one_more_missed : (shown : ℕ → Option ℕ) (i bits : ℕ) → i < 8 → is_none (shown i) ≡ true → AreMissed shown i bits → AreMissed shown (i + 1) (bit_or bits (1 * 2 ^ i % 2 ^ 8))
one_more_missed shown i bits lt none before p = elim (cases_eq p i) [
  | inl e ↦
      ap (is_missed (bit_or bits (1 * 2 ^ i % 2 ^ 8))) e
      ∙ ap (λ v. eqb v 1) (bit_at_set_same w8 bits i lt)
      ∙ sym (ap (λ q. ltb q (i + 1) && is_none (shown q)) e ∙ ap (λ b. b && is_none (shown i)) (lt-ltb i (i + 1) (omega arith)) ∙ none)
  | inr ne ↦
      ap (λ v. eqb v 1) (bit_at_set_other w8 bits i lt p ne) ∙ before p ∙ ap (λ b. b && is_none (shown p)) (same_below p i ne)
]

-- place i shows an aspect
pub one_more_shown : (shown : ℕ → Option ℕ) (i bits : ℕ) → is_none (shown i) ≡ false → AreMissed shown i bits → AreMissed shown (i + 1) bits
one_more_shown shown i bits some before p = elim (cases_eq p i) [
  | inl e ↦
      before p
      ∙ ap (λ q. ltb q i && is_none (shown q)) e
      ∙ ap (λ b. ltb i i && b) some
      ∙ and-false (ltb i i)
      ∙ sym (ap (λ q. ltb q (i + 1) && is_none (shown q)) e ∙ ap (λ b. ltb i (i + 1) && b) some ∙ and-false (ltb i (i + 1)))
  | inr ne ↦ before p ∙ ap (λ b. b && is_none (shown p)) (same_below p i ne)
]

-- ---- what is read so far, and what the remaining places show

module _ (aspects : List (List Telegram)) (shown : ℕ → Option ℕ) (i n : ℕ) (lt : i < n) where
  mixed_step : mixed_from aspects shown i (n - i) ≡ cons_option (shown_telegram aspects shown i) (mixed_from aspects shown (i + 1) (n - (i + 1)))
  mixed_step =
      let less : n - i ≡ suc (n - (i + 1)) = omega arith in
      ap (mixed_from aspects shown i) less
      ∙ ap (λ k. cons_option (shown_telegram aspects shown i) (mixed_from aspects shown k (n - (i + 1)))) (sym (add-one i))

  -- place i shows a telegram, which is read
  pub one_more_read : (front whole : List Telegram) (t : Telegram) → shown_telegram aspects shown i ≡ Some t → front ++ mixed_from aspects shown i (n - i) ≡ whole → (front ++ (t ∷ [])) ++ mixed_from aspects shown (i + 1) (n - (i + 1)) ≡ whole
  one_more_read front whole t is all =
      append_assoc front (t ∷ []) _
      ∙ ap (λ l. front ++ l) (sym (mixed_step ∙ ap (λ o. cons_option o (mixed_from aspects shown (i + 1) (n - (i + 1)))) is))
      ∙ all

  -- place i shows nothing
  pub no_more_read : (front whole : List Telegram) → shown_telegram aspects shown i ≡ None → front ++ mixed_from aspects shown i (n - i) ≡ whole → front ++ mixed_from aspects shown (i + 1) (n - (i + 1)) ≡ whole
  no_more_read front whole is all =
      ap (λ l. front ++ l) (sym (mixed_step ∙ ap (λ o. cons_option o (mixed_from aspects shown (i + 1) (n - (i + 1)))) is)) ∙ all

-- if a place shows a telegram, something is read
pub mixed-some : (aspects : List (List Telegram)) (shown : ℕ → Option ℕ) → IsControlled aspects → Fits aspects shown → (run : Run) (p : ℕ) (t : Telegram) → shown_telegram aspects shown p ≡ Some t → mixture_reading run aspects shown ≢ []
mixed-some aspects shown is fit run p t h empty =
    let r = shown_read aspects shown is fit run p t h in
    none-some t (sym (slice_get_past [] r.0 (omega arith)) ∙ subst (λ (l : List Telegram). At l r.0 t) empty r.1)

-- at the last place all is read
pub all_read : (aspects : List (List Telegram)) (shown : ℕ → Option ℕ) (i n : ℕ) (front whole : List Telegram) → n ≤ i → front ++ mixed_from aspects shown i (n - i) ≡ whole → front ≡ whole
all_read aspects shown i n front whole le all =
    let none : n - i ≡ 0 = omega arith in
    sym (append-nil front) ∙ ap (λ k. front ++ mixed_from aspects shown i k) (sym none) ∙ all
