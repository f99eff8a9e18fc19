-- What tests of facts show about the element at a place, and how a finding names the aspect of its fact.
use Rattle.std.proofs.Common.{◌≡◌, ℕ, Bool, true, false, not, ltb, List, [], length, slice_get, take, Option, Some, None, refl, sym, ap, subst, ◌∙◌, arith}
use Rattle.std.specs.Option.{option_map_or}
use Rattle.std.proofs.lemmas.Bool.{both_ways, and_parts, and_from, or_cases, or_right, cases_lt, lt-ltb, le-ltb, ltb-true, ltb-false, not_from_false, not-true}
use Rattle.std.proofs.lemmas.Option.{none-some, slice_get_within}
use mathlib.Core.Logic.{◌⊎◌, inl, inr}
use Rattle.etcs_profile.specs.declared.run.Run.{Run}
use Rattle.etcs_profile.specs.declared.track.TrackPacket.{TrackPacket}
use Rattle.etcs_profile.specs.declared.reach.Reach.{Reach}
use Rattle.etcs_telegram.specs.Record.{Telegram}
use Rattle.etcs_group.specs.Group.{Telegrams, Aspects}
use Rattle.etcs_group.specs.Packets.{is_silent, group_message}
use Rattle.etcs_group.specs.Places.{At, element_passes}
use Rattle.etcs_group.proofs.PlaceLemmas.{element_passes-at}
use Rattle.etcs_check.specs.Facts.{aspect_packets, aspect_speech, is_short_profile, aspect_fact, whole_fact, fact_of_aspect, group_fact}
use Rattle.etcs_check.specs.Findings.{is_said_and_short}
use Rattle.etcs_check.specs.Violation.{NamesAspect}
use Rattle.etcs_check.specs.Soundness.{first_aspect}
use Rattle.etcs_check.specs.declared.finding.Rule.{Rule}

-- ---- tests of the element at a place

-- a property of what an option may be
pub each_of : {X : Type 0} (o : Option X) (P : Option X → Type 0) → P None → ((x : X) → o ≡ Some x → P (Some x)) → P o
each_of None P none some = none
each_of (Some x) P none some = some x refl

pub passed : {X : Type 0} (xs : List X) (i : ℕ) (test : X → Bool) → element_passes xs i test ≡ true → (x : X) × At xs i x × (test x ≡ true)
passed {X} xs i test h = each_of (slice_get xs i) (λ o. option_map_or test o false ≡ true → (x : X) × (o ≡ Some x) × (test x ≡ true)) (λ h. absurd (both_ways false refl h)) (λ x _ h. (x, refl, h)) h

-- ---- packets of a balise

pub packets_as : (group : Telegrams) (b : ℕ) (t : Telegram) → At group b t → aspect_packets group (Some b) ≡ t.packets
packets_as group b t at = ap (λ o. option_map_or (λ (t : Telegram). t.packets) o []) at

-- a packet of a balise is a packet of its telegram
pub packet_stands : (group : Telegrams) (b k : ℕ) (p : TrackPacket) → At (aspect_packets group (Some b)) k p → (t : Telegram) × At group b t × At t.packets k p
packet_stands group b k p h = each_of (slice_get group b) (λ o. At (option_map_or (λ (t : Telegram). t.packets) o []) k p → (t : Telegram) × (o ≡ Some t) × At t.packets k p)
    (λ h. absurd (none-some p h)) (λ t _ h. (t, refl, h)) h

pub packet_as : (group : Telegrams) (b k : ℕ) (test : TrackPacket → Bool) (t : Telegram) (p : TrackPacket) → At group b t → At t.packets k p → element_passes (aspect_packets group (Some b)) k test ≡ test p
packet_as group b k test t p at at' = ap (λ l. element_passes l k test) (packets_as group b t at) ∙ element_passes-at t.packets k test p at'

module _ (reach : TrackPacket → Option Reach) (group : Telegrams) (run : Run) (b : ℕ) where
  pub short_as : (t : Telegram) (p : TrackPacket) → At group b t
      → is_short_profile reach (aspect_speech group) run (Some b) p ≡ is_said_and_short reach (group_message run group) run (is_silent run t.header.dup (length group) b) p
  short_as t p at =
      ap (λ q. is_said_and_short reach (group_message run group) run q p) (element_passes-at group b (λ (t : Telegram). is_silent run t.header.dup (length group) b) t at)

  pub profile_as : (k : ℕ) (t : Telegram) (p : TrackPacket) → At group b t → At t.packets k p
      → element_passes (aspect_packets group (Some b)) k (is_short_profile reach (aspect_speech group) run (Some b)) ≡ is_said_and_short reach (group_message run group) run (is_silent run t.header.dup (length group) b) p
  profile_as k t p at at' = packet_as group b k (is_short_profile reach (aspect_speech group) run (Some b)) t p at at' ∙ short_as t p at

-- ---- a group: the fact is about the whole, or about the aspect that is named

module _ (used : Bool) (aspects : Aspects) where
  pub group_means : (rule : Rule) (aspect : Option ℕ) (run : Option Run) (b k : Option ℕ) → group_fact used aspects rule aspect run b k ≡ true
      → ((aspect ≡ None) × (whole_fact used aspects rule run b k ≡ true))
      ⊎ ((a : ℕ) × (group : Telegrams) × At aspects a group × NamesAspect aspects a aspect × (aspect_fact (first_aspect aspects) (take a aspects) group rule run b k ≡ true))
  group_means rule None run b k h = elim (or_cases (whole_fact used aspects rule run b k) _ h) [
    | inl w ↦ inl (refl, w)
    | inr r ↦
        let q = and_parts (not (ltb 1 (length aspects))) _ r in
        let few = ltb-false 1 (length aspects) (not-true _ q.0) in
        let s = passed aspects 0 (λ group. aspect_fact (first_aspect aspects) (take 0 aspects) group rule run b k) q.1 in
        inr (0, s.0, s.1, (λ many. absurd (omega arith), λ _. refl), s.2)
  ]
  group_means rule (Some a) run b k h =
      let q = and_parts (ltb 1 (length aspects)) _ h in
      let many = ltb-true 1 (length aspects) q.0 in
      let s = passed aspects a (λ group. aspect_fact (first_aspect aspects) (take a aspects) group rule run b k) q.1 in
      inr (a, s.0, s.1, (λ _. refl, λ few. absurd (omega arith)), s.2)

  pub aspect_stands : (a : ℕ) (group : Telegrams) → At aspects a group → (rule : Rule) (aspect : Option ℕ) (run : Option Run) (b k : Option ℕ) → NamesAspect aspects a aspect
      → aspect_fact (first_aspect aspects) (take a aspects) group rule run b k ≡ true → group_fact used aspects rule aspect run b k ≡ true
  aspect_stands a group at rule aspect run b k names h =
      let here : fact_of_aspect aspects a rule run b k ≡ true = element_passes-at aspects a (λ group. aspect_fact (first_aspect aspects) (take a aspects) group rule run b k) group at ∙ h in
      elim (cases_lt 1 (length aspects)) [
        | inl many ↦ subst (λ o. group_fact used aspects rule o run b k ≡ true) (sym (names.0 many)) (and_from (ltb 1 (length aspects)) _ (lt-ltb 1 (length aspects) many) here)
        | inr few ↦
            let w = slice_get_within aspects a group at in
            let only : a ≡ 0 = omega arith in
            subst (λ o. group_fact used aspects rule o run b k ≡ true) (sym (names.1 few))
            (or_right (whole_fact used aspects rule run b k) _ (and_from (not (ltb 1 (length aspects))) _ (not_from_false _ (le-ltb 1 (length aspects) few)) (subst (λ n. fact_of_aspect aspects n rule run b k ≡ true) only here)))
      ]
