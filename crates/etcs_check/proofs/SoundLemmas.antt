-- An aspect is sound if and only if each part of it holds.
use Rattle.std.proofs.Common.{◌≡◌, ◌≢◌, ℕ, suc, ◌+◌, ◌<◌, Bool, true, false, not, List, length, get_or, slice_get, Option, Some, None, refl, sym, ap, subst, ◌∙◌, arith}
use Rattle.std.proofs.lemmas.Option.{none-some, same_Some, slice_get_within, slice_get-get_or, get_or_from_slice_get}
use Rattle.std.proofs.lemmas.Bool.{both_ways, and_parts, eqb-true, not-true, not-false}
use Rattle.etcs_bits.specs.declared.variables.duplicate.Dup.{Dup}
use Rattle.etcs_bits.specs.declared.variables.duplicate.Dup.TheVariants as dups
use Rattle.etcs_profile.specs.declared.run.Run.{Run}
use Rattle.etcs_profile.specs.declared.run.Run.TheVariants as runs
use Rattle.etcs_profile.specs.declared.track.TrackPacket.{TrackPacket}
use Rattle.etcs_telegram.specs.Record.{Telegram}
use Rattle.etcs_group.specs.Places.{At}
use Rattle.etcs_group.specs.Group.{is_modelled, named_neighbour, AreAlike, IsWellFormed, HasOneCounter}
use Rattle.etcs_group.specs.Missed.{IsSetOf, IsCovered, none_missed}
use Rattle.etcs_group.specs.Reading.{group_reading}
use Rattle.etcs_group.specs.Assembly.{IsAccepted}
use Rattle.etcs_group.specs.Packets.{held_packets, assembled, group_message, HasEqualPairs}
use Rattle.etcs_group.proofs.PlaceLemmas.{one_at, some_at}
use Rattle.etcs_group.proofs.MarkLemmas.{partner-says, next-at, previous-at}
use Rattle.etcs_group.proofs.ReadingLemmas.{at-reading}
use Rattle.etcs_group.proofs.DecidedLemmas.{readings_are_decided}
use Rattle.etcs_group.proofs.BlockLemmas.{readings_say_the_same}
use Rattle.etcs_group.proofs.SaidLemmas.{said-packets}
use Rattle.etcs_check.specs.Profiles.{gradient_reach, speed_reach, AreReached}
use Rattle.etcs_check.specs.Soundness.{IsSoundReading, IsSoundGroup, first_aspect}
use Rattle.etcs_check.specs.Findings.{are_pair, pair_differs}
use Rattle.etcs_check.specs.Violation.{only, passed_first, AspectPart}
use Rattle.etcs_check.specs.declared.finding.Rule.{Rule}
use Rattle.etcs_check.specs.declared.finding.Rule.TheVariants as rules
use Rattle.etcs_check.specs.Duplicates.{same_held}
use Rattle.etcs_check.specs.Laws.{SoundGroupsAreDecided}
use Rattle.etcs_check.proofs.NumberLemmas.{Decides-same_packets}
use Rattle.etcs_check.proofs.ProfileLemmas.{gradients_in, speeds_in, profiles-from, profiles-one, long-said, said-long}
use Rattle.etcs_check.proofs.FormedLemmas.{first_counted}
use Rattle.etcs_check.proofs.PairLemmas.{duplicates-equal, only-covered}

-- ---- pairs

are_pair-says : (m n : Dup) → are_pair m n ≡ true → (m ≡ dups.Next) × (n ≡ dups.Previous)
are_pair-says dups.Next dups.Previous h = (refl, refl)
are_pair-says m n h = absurd (both_ways _ refl h)

-- the second of a pair is after the first, and their packets differ
pub pair-says : (run : Run) (t : Telegram) (o : Option Telegram) → pair_differs run t o ≡ true → (u : Telegram) × (o ≡ Some u) × (t.header.dup ≡ dups.Next) × (u.header.dup ≡ dups.Previous) × (held_packets run t ≢ held_packets run u)
pair-says run t None h = absurd (both_ways _ refl h)
pair-says run t (Some u) h =
    let p = and_parts (are_pair t.header.dup u.header.dup) (not (same_held run t u)) h in
    let marks = are_pair-says t.header.dup u.header.dup p.0 in
    (u, refl, marks.0, marks.1, λ same. both_ways _ (not-true _ p.1) ((Decides-same_packets (held_packets run t) (held_packets run u)).1 same))

-- a pair that does not differ has equal packets
pub pair-equal : (run : Run) (t u : Telegram) → pair_differs run t (Some u) ≡ false → t.header.dup ≡ dups.Next → u.header.dup ≡ dups.Previous → held_packets run t ≡ held_packets run u
pair-equal run t u h e f =
    let same : not (same_held run t u) ≡ false = rw (e, f) at h in
    (Decides-same_packets (held_packets run t) (held_packets run u)).0 (not-false _ same)

module _ (group : List Telegram) (run : Run) (formed : IsWellFormed group) (equal : (b : ℕ) (t u : Telegram) → At group b t → At group (b + 1) u → t.header.dup ≡ dups.Next → u.header.dup ≡ dups.Previous → held_packets run t ≡ held_packets run u) where
  -- the packets of a balise and of the one after it, which is its partner
  next_equal : (b : ℕ) (t u : Telegram) → At group b t → At group (suc b) u → t.header.dup ≡ dups.Next → u.header.dup ≡ dups.Previous → held_packets run t ≡ held_packets run u
  next_equal b t u at au e f =
      let one : b + 1 ≡ suc b = omega arith in
      equal b t u at (ap (slice_get group) one ∙ au) e f

  pub equal_pairs : HasEqualPairs run group
  equal_pairs b p t u partner at au =
      let says = partner-says group b p partner in
      by_mark t.header.dup refl (subst (λ (x : Telegram). named_neighbour x.header.dup b ≡ Some p) (one_at group b says.0 t says.1 at) says.2)
    where
      by_mark : (m : Dup) → t.header.dup ≡ m → named_neighbour m b ≡ Some p → held_packets run t ≡ held_packets run u
      by_mark dups.Single e n = absurd (none-some p n)
      by_mark dups.Next e n =
          let is : p ≡ suc b = (let q = same_Some (b + 1) p n in omega arith) in
          let r = next-at group formed b t at e in
          let au' = subst (λ k. At group k u) is au in
          let same = one_at group (suc b) r.1 u r.2 au' in
          next_equal b t u at au' e (ap (λ (x : Telegram). x.header.dup) (sym same) ∙ r.3)
      by_mark dups.Previous e n =
          let r = previous-at group formed b t at e in
          let n' : named_neighbour dups.Previous (suc r.0) ≡ Some p = ap (named_neighbour dups.Previous) (sym r.1) ∙ n in
          let au' = subst (λ k. At group k u) (sym (same_Some r.0 p n')) au in
          let same = one_at group r.0 r.2 u r.3 au' in
          sym (next_equal r.0 u t au' (subst (λ k. At group k t) r.1 at) (ap (λ (x : Telegram). x.header.dup) (sym same) ∙ r.4) e)

-- ---- sound if all parts hold

-- each part of an aspect
abbrev pub HasAspectParts : List (List Telegram) → ℕ → List Telegram → Type 0
HasAspectParts aspects a group = (rule : Rule) (run : Option Run) (b k : Option ℕ) → AspectPart aspects a group rule run b k

-- two telegrams like a third are alike
pub alike_both : (t u first : Telegram) → AreAlike t first → AreAlike u first → AreAlike t u
alike_both t u first a b = record {
  version = a.version ∙ sym b.version;
  identity = a.identity ∙ sym b.identity;
  linked = a.linked ∙ sym b.linked;
}

module _ (aspects : List (List Telegram)) (a : ℕ) (group : List Telegram) (long : 0 < length (first_aspect aspects)) (some : 0 < length group) (parts : HasAspectParts aspects a group) where
  -- each balise is like balise 0 of aspect 0
  all_alike : (b : ℕ) (t u : Telegram) → At group b t → At group 0 u → AreAlike t u
  all_alike b t u at at0 =
      let f = some_at (first_aspect aspects) 0 long in
      alike_both t u f.0 (parts rules.HeaderDiffers None (Some b) None t f.0 at f.1) (parts rules.HeaderDiffers None (Some 0) None u f.0 at0 f.1)

  formed : IsWellFormed group
  formed = record {
    placed = λ b. parts rules.PositionWrong None (Some b) None;
    counted = λ b. parts rules.TotalWrong None (Some b) None;
    alike = all_alike;
    inside = λ b. parts rules.MarkOutside None (Some b) None;
    answered = λ b. parts rules.MarkUnanswered None (Some b) None;
    modelled = λ b t at k d lt. parts rules.NotModelled None (Some b) (Some k) t (get_or t.packets k d) at (slice_get-get_or t.packets k d lt);
  }

  one_counter : HasOneCounter group
  one_counter = record {
    agrees = λ b. parts rules.CounterUnfit None (Some b) None;
    equal = λ b c t u at au m n.
        let r = first_counted group b t at m in
        parts rules.CountersDiffer None (Some b) None r.0 t r.1 at m r.2 ∙ sym (parts rules.CountersDiffer None (Some c) None r.0 u r.1 au n r.2);
  }

  reached_said : (run : Run) → AreReached (group_message run group)
  reached_said run i p limit at is = (
    profiles-from gradient_reach (group_message run group) (parts rules.NoGradient (Some run) None None) (said-long gradient_reach group run (λ b k. parts rules.GradientShort (Some run) (Some b) (Some k))) i p limit at is,
    profiles-from speed_reach (group_message run group) (parts rules.NoSpeed (Some run) None None) (said-long speed_reach group run (λ b k. parts rules.SpeedShort (Some run) (Some b) (Some k))) i p limit at is,
  )

  says_said : (run : Run) (missed : ℕ → Bool) → IsCovered group missed → assembled run (group_reading run missed group) ≡ group_message run group
  says_said run missed covered =
      (readings_say_the_same run group formed).covered (equal_pairs group run formed (λ b. parts rules.DuplicatesDiffer (Some run) (Some b) None)) missed covered

  pub sound-from_parts : IsSoundGroup group
  sound-from_parts = record {
    formed = formed;
    readings = λ run missed set covered. record {
      accepted = (readings_are_decided run group missed formed one_counter some set).accepted.1 covered;
      same = says_said run missed covered ∙ (readings_say_the_same run group formed).full;
      reached = subst AreReached (sym (says_said run missed covered)) (reached_said run);
    };
  }

-- ---- all parts hold if sound

none_set : (group : List Telegram) → IsSetOf group none_missed
none_set group p h = absurd (both_ways false refl h)

none_covered : (group : List Telegram) → IsCovered group none_missed
none_covered group p h = absurd (both_ways false refl h)

-- the counters agree if the reading with nothing missed is accepted
pub fitting-from_accepted : (group : List Telegram) (run : Run) → IsAccepted run (group_reading run none_missed group) → HasOneCounter group
fitting-from_accepted group run accepted = record {
  agrees = λ b t at. let r = at-reading group none_missed run b t at refl in accepted.one_counter.agrees r.0 t r.1;
  equal = λ b c t u at au m n.
      let r = at-reading group none_missed run b t at refl in
      let s = at-reading group none_missed run c u au refl in
      accepted.one_counter.equal r.0 s.0 t u r.1 s.1 m n;
}

module _ (group : List Telegram) (sound : IsSoundGroup group) where
  pub full : (run : Run) → IsSoundReading group run none_missed
  full run = sound.readings run none_missed (none_set group) (none_covered group)

  pub fitting : HasOneCounter group
  fitting = fitting-from_accepted group runs.Nominal (full runs.Nominal).accepted

  said_reached : (run : Run) → AreReached (group_message run group)
  said_reached run = subst AreReached (sym (said-packets group sound.formed run)) (full run).reached

  only_set : (run : Run) (b : ℕ) (t : Telegram) → At group b t → t.header.dup ≡ dups.Next → IsSetOf group (only (passed_first run b))
  only_set runs.Nominal b t at e p h = let s = eqb-true p b h in let w = slice_get_within group b t at in omega arith
  only_set runs.Reverse b t at e p h =
      let s = eqb-true p (suc b) h in
      let n = next-at group sound.formed b t at e in
      let w = slice_get_within group (suc b) n.1 n.2 in
      omega arith

  equal_next : (run : Run) (b : ℕ) (t u : Telegram) → At group b t → At group (b + 1) u → t.header.dup ≡ dups.Next → u.header.dup ≡ dups.Previous → held_packets run t ≡ held_packets run u
  equal_next run b t u at au e f =
      let one : b + 1 ≡ suc b = omega arith in
      duplicates-equal group run b t u sound.formed at (ap (slice_get group) (sym one) ∙ au) e f
      (sound.readings run (only (passed_first run b)) (only_set run b t at e) (only-covered group run b t sound.formed at e)).same

  all_modelled : (b k : ℕ) (t : Telegram) (p : TrackPacket) → At group b t → At t.packets k p → is_modelled p ≡ true
  all_modelled b k t p at at' =
      let lt = slice_get_within t.packets k p at' in
      subst (λ q. is_modelled q ≡ true) (get_or_from_slice_get t.packets k p p at') (sound.formed.modelled b t at k p lt)

  -- an aspect that is like aspect 0, and that its counters distinguish from the aspects before it
  pub parts-from_sound : (aspects : List (List Telegram)) (a : ℕ) → ((b : ℕ) → AspectPart aspects a group rules.HeaderDiffers None (Some b) None)
      → ((b : ℕ) → AspectPart aspects a group rules.MarksDiffer None (Some b) None) → ((b : ℕ) → AspectPart aspects a group rules.NotToldApart None (Some b) None) → HasAspectParts aspects a group
  parts-from_sound aspects a alike marks fresh = go
    where
      go : (rule : Rule) (run : Option Run) (b k : Option ℕ) → AspectPart aspects a group rule run b k
      go rules.PositionWrong None (Some b) None = sound.formed.placed b
      go rules.TotalWrong None (Some b) None = sound.formed.counted b
      go rules.HeaderDiffers None (Some b) None = alike b
      go rules.MarkOutside None (Some b) None = sound.formed.inside b
      go rules.MarkUnanswered None (Some b) None = sound.formed.answered b
      go rules.CounterUnfit None (Some b) None = fitting.agrees b
      go rules.CountersDiffer None (Some b) None = λ j t u at low first. fitting.equal b j t u at first.0 low first.1
      go rules.DuplicatesDiffer (Some run) (Some b) None = equal_next run b
      go rules.NotModelled None (Some b) (Some k) = all_modelled b k
      go rules.NoGradient (Some run) None None = profiles-one gradient_reach (group_message run group) (gradients_in (group_message run group) (said_reached run))
      go rules.GradientShort (Some run) (Some b) (Some k) = long-said gradient_reach group run (gradients_in (group_message run group) (said_reached run)) b k
      go rules.NoSpeed (Some run) None None = profiles-one speed_reach (group_message run group) (speeds_in (group_message run group) (said_reached run))
      go rules.SpeedShort (Some run) (Some b) (Some k) = long-said speed_reach group run (speeds_in (group_message run group) (said_reached run)) b k
      go rules.MarksDiffer None (Some b) None = marks b
      go rules.NotToldApart None (Some b) None = fresh b
      go rule run b k = tt

pub sound_groups_are_decided : SoundGroupsAreDecided
sound_groups_are_decided group run missed sound long set =
    readings_are_decided run group missed sound.formed (fitting group sound) long set
