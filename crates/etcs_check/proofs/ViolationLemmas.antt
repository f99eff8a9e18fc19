-- Each finding states a fact, by which its part of soundness does not hold, with the stated consequence for
-- readings.
use Rattle.std.proofs.Common.{◌≡◌, ℕ, suc, ◌+◌, Bool, false, true, List, [], slice_get, take, Option, Some, None, refl, sym, ap, subst, ◌∙◌, arith}
use Rattle.std.proofs.lemmas.Option.{none-some}
use Rattle.std.proofs.lemmas.Bool.{both_ways, false_from_ne_true, or_parts}
use mathlib.Core.Logic.{inl, inr}
use Rattle.etcs_profile.specs.declared.run.Run.{Run}
use Rattle.etcs_radio.specs.declared.message.Message.{Message}
use Rattle.etcs_telegram.specs.Record.{Telegram}
use Rattle.etcs_group.specs.Places.{At}
use Rattle.etcs_group.specs.Controlled.{IsControlled}
use Rattle.etcs_group.specs.Group.{IsWellFormed}
use Rattle.etcs_group.specs.Packets.{group_message}
use Rattle.etcs_group.proofs.SaidLemmas.{said-packets}
use Rattle.etcs_check.specs.Aspects.{is_used}
use Rattle.etcs_check.specs.Facts.{aspect_fact, whole_fact, group_fact, message_fact, site_fact}
use Rattle.etcs_check.specs.Findings.{pair_differs}
use Rattle.etcs_check.specs.Violation.{full_packets, AffectsReadings, DependsOnMissed, ViolatesGroup, IsNew, ViolatesSite, HasSiteParts}
use Rattle.etcs_check.specs.Laws.{AreControlled, FindingsAreFacts, PartsHoldUnlessFound, ASoundLineHasNoViolation}
use Rattle.etcs_check.specs.Line.{findings}
use Rattle.etcs_check.specs.Profiles.{AreReached, gradient_reach, speed_reach}
use Rattle.etcs_check.specs.Soundness.{first_aspect}
use Rattle.etcs_check.specs.declared.finding.Finding.{Finding}
use Rattle.etcs_check.specs.declared.finding.Rule.{Rule}
use Rattle.etcs_check.specs.declared.finding.Rule.TheVariants as rules
use Rattle.etcs_check.specs.declared.finding.Site.{Site}
use Rattle.etcs_check.specs.declared.finding.Site.TheVariants as sites
use Rattle.etcs_check.proofs.CellLemmas.{each_fact_is_listed, findings_state}
use Rattle.etcs_group.proofs.PlaceLemmas.{element_passes-at}
use Rattle.etcs_check.proofs.FactLemmas.{passed, group_means, aspect_stands}
use Rattle.etcs_check.proofs.LineLemmas.{new-is, new-says, no_finding_means_sound_line}
use Rattle.etcs_check.proofs.PairLemmas.{duplicates-equal, only-covered}
use Rattle.etcs_check.proofs.PartLemmas.{aspect_holds, aspect_unbroken, whole_holds, whole_unbroken, message_holds, message_unbroken, message_whole}
use Rattle.etcs_check.proofs.ProfileLemmas.{gradients_in, speeds_in, profiles-one, long-said}
use Rattle.etcs_check.proofs.SoundLemmas.{fitting-from_accepted, pair-says}

-- ---- readings

-- the message is the packets of the reading with nothing missed
said_reached : (group : List Telegram) (run : Run) → IsWellFormed group → AreReached (full_packets group run) → AreReached (group_message run group)
said_reached group run formed reached = subst AreReached (sym (said-packets group formed run)) reached

pair_affects : (group : List Telegram) (run : Run) (b : ℕ) (t : Telegram) → At group b t → pair_differs run t (slice_get group (b + 1)) ≡ true → IsWellFormed group → DependsOnMissed group run b
pair_affects group run b t at differs formed =
    let p = pair-says run t (slice_get group (b + 1)) differs in
    let one : b + 1 ≡ suc b = omega arith in
    (only-covered group run b t formed at p.2, λ same. p.4 (duplicates-equal group run b t p.0 formed at (ap (slice_get group) (sym one) ∙ p.1) p.2 p.3 same))

module _ (aspects : List (List Telegram)) (a : ℕ) (group : List Telegram) where
  readings_affected : (rule : Rule) (run : Option Run) (b k : Option ℕ) → aspect_fact (first_aspect aspects) (take a aspects) group rule run b k ≡ true → AffectsReadings group rule run b
  readings_affected rules.CounterUnfit None (Some b) None h = λ run accepted.
      both_ways _ (aspect_unbroken aspects a group rules.CounterUnfit None (Some b) None ((fitting-from_accepted group run accepted).agrees b)) h
  readings_affected rules.CountersDiffer None (Some b) None h = λ run accepted.
      let one = fitting-from_accepted group run accepted in
      both_ways _ (aspect_unbroken aspects a group rules.CountersDiffer None (Some b) None (λ j t u at low first. one.equal b j t u at first.0 low first.1)) h
  readings_affected rules.DuplicatesDiffer (Some run) (Some b) None h =
      let r = passed group b (λ t. pair_differs run t (slice_get group (b + 1))) h in
      pair_affects group run b r.0 r.1 r.2
  readings_affected rules.NoGradient (Some run) None None h = λ formed reached.
      let said = gradients_in (group_message run group) (said_reached group run formed reached) in
      both_ways _ (aspect_unbroken aspects a group rules.NoGradient (Some run) None None (profiles-one gradient_reach (group_message run group) said)) h
  readings_affected rules.GradientShort (Some run) (Some b) (Some k) h = λ formed reached.
      let said = gradients_in (group_message run group) (said_reached group run formed reached) in
      both_ways _ (aspect_unbroken aspects a group rules.GradientShort (Some run) (Some b) (Some k) (long-said gradient_reach group run said b k)) h
  readings_affected rules.NoSpeed (Some run) None None h = λ formed reached.
      let said = speeds_in (group_message run group) (said_reached group run formed reached) in
      both_ways _ (aspect_unbroken aspects a group rules.NoSpeed (Some run) None None (profiles-one speed_reach (group_message run group) said)) h
  readings_affected rules.SpeedShort (Some run) (Some b) (Some k) h = λ formed reached.
      let said = speeds_in (group_message run group) (said_reached group run formed reached) in
      both_ways _ (aspect_unbroken aspects a group rules.SpeedShort (Some run) (Some b) (Some k) (long-said speed_reach group run said b k)) h
  readings_affected rules.GradientShort (Some run) None (Some k) h = absurd (both_ways false refl h)
  readings_affected rules.SpeedShort (Some run) None (Some k) h = absurd (both_ways false refl h)
  readings_affected rule run b k h = first_of (search, cc)

group_violates : (new : Type 0) (used : Bool) (aspects : List (List Telegram)) → IsControlled aspects → (new → used ≡ false) → (rule : Rule) (aspect : Option ℕ) (run : Option Run) (b k : Option ℕ) → group_fact used aspects rule aspect run b k ≡ true → ViolatesGroup new aspects rule aspect run b k
group_violates new used aspects controlled unused rule aspect run b k fact = elim (group_means used aspects rule aspect run b k fact) [
  | inl w ↦ inl (w.0, λ part. both_ways _ (whole_unbroken new used aspects controlled unused rule run b k part) w.1)
  | inr r ↦ inr (r.0, r.1, r.2, r.3, λ part. both_ways _ (aspect_unbroken aspects r.0 r.1 rule run b k part) r.4, readings_affected aspects r.0 r.1 rule run b k r.4)
]

-- ---- findings

module _ (groups : List (List (List Telegram))) (messages : List Message) (f : Finding) (controlled : AreControlled groups) where
  facts_violate : (s : Site) → site_fact groups messages s f ≡ true → ViolatesSite groups messages f s
  facts_violate (sites.Group g) h =
      let r = passed groups g (λ aspects. group_fact (is_used (take g groups) aspects) aspects f.rule f.aspect f.dir f.balise f.packet) h in
      (r.0, r.1, group_violates (IsNew groups g r.0) (is_used (take g groups) r.0) r.0 (controlled g r.0 r.1) (new-is groups g r.0) f.rule f.aspect f.dir f.balise f.packet r.2)
  facts_violate (sites.Message i) h =
      let r = passed messages i (λ m. message_fact m f.rule f.aspect f.dir f.balise f.packet) h in
      let whole = message_whole r.0 f.rule f.aspect f.dir f.balise f.packet r.2 in
      (r.0, r.1, whole, λ part. both_ways _ (message_unbroken r.0 f.rule f.dir f.balise f.packet part) (subst (λ o. message_fact r.0 f.rule o f.dir f.balise f.packet ≡ true) whole r.2))

  parts_hold : (s : Site) → site_fact groups messages s f ≡ false → HasSiteParts groups messages f s
  parts_hold (sites.Group g) none = λ aspects at.
      let used = is_used (take g groups) aspects in
      let silent : group_fact used aspects f.rule f.aspect f.dir f.balise f.packet ≡ false =
      sym (element_passes-at groups g (λ aspects. group_fact (is_used (take g groups) aspects) aspects f.rule f.aspect f.dir f.balise f.packet) aspects at) ∙ none in (
        λ whole. whole_holds (IsNew groups g aspects) used aspects (controlled g aspects at) (new-says groups g aspects (controlled g aspects at)) f.rule f.dir f.balise f.packet
            (or_parts (whole_fact used aspects f.rule f.dir f.balise f.packet) _ (subst (λ o. group_fact used aspects f.rule o f.dir f.balise f.packet ≡ false) whole silent)).0,
        λ a group there names. aspect_holds aspects a group f.rule f.dir f.balise f.packet (false_from_ne_true _ (λ h.
            both_ways _ silent (aspect_stands used aspects a group there f.rule f.aspect f.dir f.balise f.packet names h))),
      )
  parts_hold (sites.Message i) none = λ m at whole. message_holds m f.rule f.dir f.balise f.packet
      (subst (λ o. message_fact m f.rule o f.dir f.balise f.packet ≡ false) whole (sym (element_passes-at messages i (λ m. message_fact m f.rule f.aspect f.dir f.balise f.packet) m at) ∙ none))

pub findings_are_facts : FindingsAreFacts
findings_are_facts groups messages i f h =
    let states = findings_state groups messages i f h in
    (states, λ controlled. facts_violate groups messages f controlled f.site states)

pub parts_hold_unless_found : PartsHoldUnlessFound
parts_hold_unless_found groups messages f controlled none = parts_hold groups messages f controlled f.site (false_from_ne_true _ (λ h.
    let l = each_fact_is_listed groups messages f h in
    none l.0 l.1))

-- a violation has a part that does not hold
violation_parts : (groups : List (List (List Telegram))) (messages : List Message) (f : Finding) (s : Site) → HasSiteParts groups messages f s → ViolatesSite groups messages f s → ⊥
violation_parts groups messages f (sites.Group g) parts h =
    let p = parts h.0 h.1 in
    elim h.2 [
      | inl w ↦ w.1 (p.0 w.0)
      | inr r ↦ r.4 (p.1 r.0 r.1 r.2 r.3)
    ]
violation_parts groups messages f (sites.Message i) parts h = h.3 (parts h.0 h.1 h.2)

pub a_sound_line_has_no_violation : ASoundLineHasNoViolation
a_sound_line_has_no_violation groups messages f controlled sound =
    let empty : findings groups messages ≡ [] = (no_finding_means_sound_line groups messages controlled).1 sound in
    let parts = parts_hold_unless_found groups messages f controlled (λ i at. none-some f (subst (λ l. At l i f) empty at)) in
    (parts, violation_parts groups messages f f.site parts)
