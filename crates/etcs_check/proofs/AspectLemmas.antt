-- A controlled group is sound if and only if each part of it holds. What is read of a mixture is decided.
use Rattle.std.proofs.Common.{◌≡◌, ◌≢◌, ℕ, ◌<◌, Bool, true, false, ltb, ◌||◌, List, [], ◌∷◌, length, slice_get, take, get_or, Option, Some, None, refl, sym, ap, subst, ◌∙◌, arith}
use Rattle.std.specs.Option.{option_map_or}
use Rattle.std.proofs.lemmas.Option.{slice_get_within, slice_get-get_or, get_or_from_slice_get}
use Rattle.std.proofs.lemmas.List.Sums.{AllPass-from_list_all, list_all-from_AllPass}
use Rattle.std.proofs.lemmas.Bool.{both_ways, cases_lt, and_parts, and_from, and_cases, and_left, and_right, or_cases, or_left, or_right, eqb-true, eq-eqb, ltb-true, lt-ltb, le-ltb, not-false, not_from_true}
use mathlib.Core.Logic.{◌⊎◌, inl, inr}
use Rattle.etcs_telegram.specs.Record.{Telegram}
use Rattle.etcs_group.specs.Places.{At}
use Rattle.etcs_group.specs.Group.{AreAlike}
use Rattle.etcs_group.specs.Controlled.{balise_count, IsControlled, Shows, IsFixed, IsSwitched, AreOneGroup}
use Rattle.etcs_group.specs.Laws.{MakesOneMessage}
use Rattle.etcs_group.proofs.PlaceLemmas.{some_at, one_at, at_list_any, list_any-at, At-take, at_take}
use Rattle.etcs_group.proofs.MixtureLemmas.{mixtures_are_decided}
use Rattle.etcs_check.specs.Soundness.{IsSoundGroup, IsSoundControlled, first_aspect}
use Rattle.etcs_check.specs.Findings.{has_counter, is_counter_taken}
use Rattle.etcs_check.specs.Aspects.{all_pass, is_steady, has_aspect_counter, is_ambiguous}
use Rattle.etcs_check.specs.Violation.{GroupPart}
use Rattle.etcs_profile.specs.declared.run.Run.{Run}
use Rattle.etcs_check.specs.Laws.{SoundMixturesAreDecided}
use Rattle.etcs_check.specs.declared.finding.Rule.{Rule}
use Rattle.etcs_check.specs.declared.finding.Rule.TheVariants as rules
use Rattle.etcs_check.proofs.NumberLemmas.{Decides-same_telegram}
use Rattle.etcs_check.proofs.SoundLemmas.{HasAspectParts, alike_both, sound-from_parts, parts-from_sound}

-- ---- tests of all aspects

all_pass-says : (test : Telegram → Bool) (b : ℕ) (aspects : List (List Telegram)) → all_pass test b aspects ≡ true → (a : ℕ) (t : Telegram) → Shows aspects a b t → test t ≡ true
all_pass-says test b aspects h a t has =
    ap (λ o. option_map_or test o false) (sym has.2) ∙ subst (λ (group : List Telegram). option_map_or test (slice_get group b) false ≡ true) (get_or_from_slice_get aspects a has.0 has.0 has.1)
    (AllPass-from_list_all (λ group. option_map_or test (slice_get group b) false) aspects h a has.0 (slice_get_within aspects a has.0 has.1))

all_pass-is : (test : Telegram → Bool) (b : ℕ) (aspects : List (List Telegram)) → ((a : ℕ) (group : List Telegram) → At aspects a group → (t : Telegram) × At group b t × (test t ≡ true)) → all_pass test b aspects ≡ true
all_pass-is test b aspects h =
    list_all-from_AllPass (λ group. option_map_or test (slice_get group b) false) aspects (λ a d lt.
    let t = h a (get_or aspects a d) (slice_get-get_or aspects a d lt) in
    ap (λ o. option_map_or test o false) t.1 ∙ t.2)

-- ---- the first aspect

pub first_at : (aspects : List (List Telegram)) → 0 < length aspects → At aspects 0 (first_aspect aspects)
first_at [] lt = absurd (omega arith)
first_at (g ∷ gs) lt = refl

count_is : (aspects : List (List Telegram)) → balise_count aspects ≡ length (first_aspect aspects)
count_is [] = refl
count_is (g ∷ gs) = refl

module _ (aspects : List (List Telegram)) (controlled : IsControlled aspects) where
  first_here : At aspects 0 (first_aspect aspects)
  first_here = first_at aspects controlled.some

  pub first_long : 0 < length (first_aspect aspects)
  first_long = subst (λ n. 0 < n) (count_is aspects) controlled.balises

  as_long : (a : ℕ) (group : List Telegram) → At aspects a group → length group ≡ length (first_aspect aspects)
  as_long a group at = controlled.counts a group at ∙ count_is aspects

  -- aspect 0 has a balise at each place of an aspect
  first_has : (a p : ℕ) (t : Telegram) → Shows aspects a p t → (f : Telegram) × At (first_aspect aspects) p f
  first_has a p t has =
      let w = slice_get_within has.0 p t has.2 in
      let l = as_long a has.0 has.1 in
      some_at (first_aspect aspects) p (omega arith)

  only_first : (a : ℕ) (group : List Telegram) → At aspects a group → (1 < length aspects → ⊥) → group ≡ first_aspect aspects
  only_first a group at few =
      let w = slice_get_within aspects a group at in
      let z : a ≡ 0 = elim (cases_lt 1 (length aspects)) [ inl many ↦ absurd (few many) | inr le ↦ omega arith ] in
      one_at aspects 0 group (first_aspect aspects) (subst (λ k. At aspects k group) z at) first_here

  -- at a place that is fixed or switched the counters distinguish the aspects
  told-is : (b : ℕ) (t : Telegram) → At (first_aspect aspects) b t → IsFixed aspects b ⊎ IsSwitched aspects b → (all_pass (is_steady t) b aspects || all_pass has_aspect_counter b aspects) ≡ true
  told-is b t at told = elim told [
    | inl fixed ↦ or_left _ _ (all_pass-is (is_steady t) b aspects (λ a group at'.
        let u = here a group at' in
        let e = fixed 0 a t u.0 (first_aspect aspects, first_here, at) (group, at', u.1) in
        (u.0, u.1, and_from _ _ (eq-eqb _ _ (ap (λ (x : Telegram). x.header.counter) (sym e.0) ∙ e.1)) ((Decides-same_telegram t u.0).1 e.0))))
    | inr switched ↦ or_right _ _ (all_pass-is has_aspect_counter b aspects (λ a group at'.
        let u = here a group at' in
        (u.0, u.1, lt-ltb _ _ (switched a u.0 (group, at', u.1)))))
  ]
    where
      here : (a : ℕ) (group : List Telegram) → At aspects a group → (u : Telegram) × At group b u
      here a group at' =
          let l = as_long a group at' in
          let w = slice_get_within (first_aspect aspects) b t at in
          some_at group b (omega arith)

  pub untold-is : (b : ℕ) (t : Telegram) → At (first_aspect aspects) b t → (1 < length aspects → IsFixed aspects b ⊎ IsSwitched aspects b) → is_ambiguous aspects b t ≡ false
  untold-is b t at told = elim (cases_lt 1 (length aspects)) [
    | inl many ↦ and_right (ltb 1 (length aspects)) _ (not_from_true _ (told-is b t at (told many)))
    | inr few ↦ and_left _ _ (le-ltb _ _ few)
  ]

  steady_at : (p : ℕ) (f : Telegram) → all_pass (is_steady f) p aspects ≡ true → (a : ℕ) (t : Telegram) → Shows aspects a p t → (f ≡ t) × (t.header.counter ≡ 255)
  steady_at p f h a t has =
      let s = and_parts _ _ (all_pass-says (is_steady f) p aspects h a t has) in
      ((Decides-same_telegram f t).0 s.1, eqb-true _ _ s.0)

  -- a place that is not ambiguous is fixed or switched
  pub told_place : 1 < length aspects → (p : ℕ) → ((f : Telegram) → At (first_aspect aspects) p f → is_ambiguous aspects p f ≡ false) → IsFixed aspects p ⊎ IsSwitched aspects p
  told_place many p told_at = elim (cases_lt p (length (first_aspect aspects))) [
    | inl lt ↦
        let f = some_at (first_aspect aspects) p lt in
        elim (and_cases (ltb 1 (length aspects)) _ (told_at f.0 f.1)) [
          | inl one ↦ absurd (both_ways _ one (lt-ltb _ _ many))
          | inr told ↦ elim (or_cases (all_pass (is_steady f.0) p aspects) (all_pass has_aspect_counter p aspects) (not-false _ told)) [
            | inl steady ↦ inl (λ a b t u ht hu.
                let x = steady_at p f.0 steady a t ht in
                let y = steady_at p f.0 steady b u hu in
                (sym x.0 ∙ y.0, x.1))
            | inr counted ↦ inr (λ a t has. ltb-true _ _ (all_pass-says has_aspect_counter p aspects counted a t has))
          ]
        ]
    | inr ge ↦ inr (λ a t has.
        let w = slice_get_within has.0 p t has.2 in
        let l = as_long a has.0 has.1 in
        absurd (omega arith))
  ]

pub aspect_long : (aspects : List (List Telegram)) → IsControlled aspects → (a : ℕ) (group : List Telegram) → At aspects a group → 0 < length group
aspect_long aspects controlled a group at =
    let l = as_long aspects controlled a group at in
    let f = first_long aspects controlled in
    omega arith

-- an earlier aspect has a counter that is taken
pub taken-at : (aspects : List (List Telegram)) (a : ℕ) (t : Telegram) → is_counter_taken (take a aspects) t ≡ true → (c : ℕ) × (q : ℕ) × (u : Telegram) × (c < a) × Shows aspects c q u × (t.header.counter < 254) × (u.header.counter ≡ t.header.counter)
taken-at aspects a t taken =
    let parts = and_parts (ltb t.header.counter 254) _ taken in
    let r = list_any-at (has_counter t.header.counter) (take a aspects) parts.1 in
    let q = list_any-at _ r.1 r.3 in
    let before = At-take a aspects r.0 r.1 r.2 in
    (r.0, q.0, q.1, before.0, (r.1, before.1, q.2), ltb-true _ _ parts.0, eqb-true _ _ q.3)

-- no telegram of an earlier aspect has a counter that is not taken
pub fresh-says : (aspects : List (List Telegram)) (a : ℕ) (u : Telegram) → is_counter_taken (take a aspects) u ≡ false → (k q : ℕ) (t : Telegram) → k < a → Shows aspects k q t → u.header.counter < 254 → t.header.counter ≢ u.header.counter
fresh-says aspects a u fresh k q t lt ht low same = elim (and_cases (ltb u.header.counter 254) _ fresh) [
  | inl high ↦ both_ways _ high (lt-ltb _ _ low)
  | inr fresh ↦ both_ways _ fresh (at_list_any (has_counter u.header.counter) (take a aspects) k ht.0 (at_take a aspects k ht.0 lt ht.1)
      (at_list_any _ ht.0 q t ht.2 (eq-eqb _ _ same)))
]

-- ---- sound if all parts hold

-- Each part of a group: of the group as a whole, and of each aspect.
abbrev pub HasGroupParts : Type 0 → List (List Telegram) → Type 0
HasGroupParts new aspects =
    ((rule : Rule) (run : Option Run) (b k : Option ℕ) → GroupPart new aspects rule run b k)
    × ((a : ℕ) (group : List Telegram) → At aspects a group → HasAspectParts aspects a group)

module _ (new : Type 0) (aspects : List (List Telegram)) (controlled : IsControlled aspects) (parts : HasGroupParts new aspects) where
  alike_at : (a p : ℕ) (t f : Telegram) → Shows aspects a p t → At (first_aspect aspects) 0 f → AreAlike t f
  alike_at a p t f has at0 = parts.1 a has.0 has.1 rules.HeaderDiffers None (Some p) None t f has.2 at0

  one_mark : (a b p : ℕ) (t u : Telegram) → Shows aspects a p t → Shows aspects b p u → t.header.dup ≡ u.header.dup
  one_mark a b p t u ht hu =
      let f = first_has aspects controlled a p t ht in
      parts.1 a ht.0 ht.1 rules.MarksDiffer None (Some p) None t f.0 ht.2 f.1 ∙ sym (parts.1 b hu.0 hu.1 rules.MarksDiffer None (Some p) None u f.0 hu.2 f.1)

  -- a counter of an earlier aspect is another one
  later_differs : (a c p q : ℕ) (t u : Telegram) → c < a → Shows aspects a p t → Shows aspects c q u → t.header.counter < 254 → t.header.counter ≢ u.header.counter
  later_differs a c p q t u lt ht hu low = parts.1 a ht.0 ht.1 rules.NotToldApart None (Some p) None c q t u lt ht.2 hu low

  one_group : 1 < length aspects → AreOneGroup aspects
  one_group many = record {
    alike = λ a b p q t u ht hu.
        let f = some_at (first_aspect aspects) 0 (first_long aspects controlled) in
        alike_both t u f.0 (alike_at a p t f.0 ht f.1) (alike_at b q u f.0 hu f.1);
    marks = one_mark;
    fixed_or_switched = λ p. parts.0 rules.NotToldApart None (Some p) None many;
    distinct = λ a b p q t u ne ht hu low low'. elim (cases_lt a b) [
      | inl lt ↦ λ same. later_differs b a q p u t lt hu ht low' (sym same)
      | inr ge ↦ later_differs a b p q t u (omega arith) ht hu low
    ];
  }

  pub sound_group : IsSoundControlled aspects
  sound_group = record {
    sound = λ a group at. sound-from_parts aspects a group (first_long aspects controlled) (aspect_long aspects controlled a group at) (parts.1 a group at);
    one = one_group;
  }

-- ---- all parts hold if sound

module _ (aspects : List (List Telegram)) (controlled : IsControlled aspects) (sound : IsSoundControlled aspects) where
  alike_all : (a p : ℕ) (t f : Telegram) → Shows aspects a p t → At (first_aspect aspects) 0 f → AreAlike t f
  alike_all a p t f has at0 = elim (cases_lt 1 (length aspects)) [
    | inl many ↦ (sound.one many).alike a 0 p 0 t f has (first_aspect aspects, first_here aspects controlled, at0)
    | inr few ↦
        let g = only_first aspects controlled a has.0 has.1 (λ many. omega arith) in
        (sound.sound a has.0 has.1).formed.alike p t f has.2 (subst (λ g. At g 0 f) (sym g) at0)
  ]

  mark_first : (a p : ℕ) (t f : Telegram) → Shows aspects a p t → At (first_aspect aspects) p f → t.header.dup ≡ f.header.dup
  mark_first a p t f has at = elim (cases_lt 1 (length aspects)) [
    | inl many ↦ (sound.one many).marks a 0 p t f has (first_aspect aspects, first_here aspects controlled, at)
    | inr few ↦
        let g = only_first aspects controlled a has.0 has.1 (λ many. omega arith) in
        ap (λ (x : Telegram). x.header.dup) (one_at (first_aspect aspects) p t f (subst (λ g. At g p t) g has.2) at)
  ]

  -- two counters below 254 of two aspects differ
  fresh_all : (a p c q : ℕ) (t u : Telegram) → c < a → Shows aspects a p t → Shows aspects c q u → t.header.counter < 254 → t.header.counter ≢ u.header.counter
  fresh_all a p c q t u lt ht hu low same =
      let w = slice_get_within aspects a ht.0 ht.1 in
      (sound.one (omega arith)).distinct a c p q t u (omega arith) ht hu low (subst (λ n. n < 254) same low) same

  aspect_parts : (a : ℕ) (group : List Telegram) → At aspects a group → HasAspectParts aspects a group
  aspect_parts a group at = parts-from_sound group (sound.sound a group at) aspects a
      (λ b t f at' at0. alike_all a b t f (group, at, at') at0)
      (λ b t f at' at0. mark_first a b t f (group, at, at') at0)
      (λ b c q t u lt at' hu low. fresh_all a b c q t u lt (group, at, at') hu low)

  pub group_parts : (new : Type 0) → new → HasGroupParts new aspects
  group_parts new is_new = (whole, aspect_parts)
    where
      whole : (rule : Rule) (run : Option Run) (b k : Option ℕ) → GroupPart new aspects rule run b k
      whole rules.IdentityUsed None None None = is_new
      whole rules.NotToldApart None (Some b) None = λ many. (sound.one many).fixed_or_switched b
      whole rule run b k = tt

-- ---- mixtures

makes_one_message : (group : List Telegram) → IsSoundGroup group → MakesOneMessage group
makes_one_message group sound = record {
  formed = sound.formed;
  accepted = λ run missed set covered. (sound.readings run missed set covered).accepted;
  same = λ run missed set covered. (sound.readings run missed set covered).same;
}

pub sound_mixtures_are_decided : SoundMixturesAreDecided
sound_mixtures_are_decided run aspects shown controlled sound fits =
    mixtures_are_decided run aspects shown controlled (λ a group at. makes_one_message group (sound.sound a group at)) sound.one fits
