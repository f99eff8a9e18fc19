-- There is a fact if and only if the part of soundness that its rule requires does not hold.
use Rattle.std.proofs.Common.{◌≡◌, ℕ, ◌+◌, Bool, true, false, List, length, slice_get, take, Option, Some, None, refl, sym, ap, ◌∙◌}
use Rattle.std.specs.List.{filter}
use Rattle.std.proofs.lemmas.Option.{same_Some}
use Rattle.std.proofs.lemmas.Bool.{both_ways, eqb-true, eq-eqb, eqb-false, ne_eqb, not-false, not_from_true, false_from_ne_true}
use Rattle.etcs_profile.specs.Track.{holds}
use Rattle.etcs_profile.specs.declared.run.Run.{Run}
use Rattle.etcs_profile.specs.declared.track.TrackPacket.{TrackPacket}
use Rattle.etcs_profile.specs.declared.reach.Reach.{Reach}
use Rattle.etcs_radio.specs.declared.message.Message.{Message}
use Rattle.etcs_radio.specs.declared.message.Message.TheVariants as messages
use Rattle.etcs_telegram.specs.Record.{Telegram}
use Rattle.etcs_group.specs.Places.{At, element_passes}
use Rattle.etcs_group.specs.Packets.{is_silent, group_message}
use Rattle.etcs_group.specs.Controlled.{IsControlled}
use Rattle.etcs_check.specs.Profiles.{gradient_reach, speed_reach}
use Rattle.etcs_check.specs.Soundness.{first_aspect}
use Rattle.etcs_check.specs.Findings.{header_differs, mark_differs, balise_fact, pair_differs, is_unmodelled}
use Rattle.etcs_check.specs.Aspects.{is_ambiguous}
use Rattle.etcs_check.specs.Facts.{aspect_packets, aspect_speech, message_speech, is_short_profile, packet_fact, aspect_fact, whole_fact, message_fact}
use Rattle.etcs_check.specs.Violation.{AspectPart, GroupPart, PacketsPart, MessagePart, IsLongProfile}
use Rattle.etcs_check.specs.declared.finding.Rule.{Rule}
use Rattle.etcs_check.specs.declared.finding.Rule.TheVariants as rules
use Rattle.etcs_group.proofs.PlaceLemmas.{element_passes-at, element_passes-none}
use Rattle.etcs_check.proofs.FactLemmas.{each_of, packet_stands, packet_as, profile_as, short_as}
use Rattle.etcs_check.proofs.FormedLemmas.{alike-says, inside-says, answered-says, counter-says, first_counter-is, alike-is, inside-is, answered-is, equal-is}
use Rattle.etcs_check.proofs.NumberLemmas.{Decides-same_mark}
use Rattle.etcs_check.proofs.ProfileLemmas.{one-from_lacks, lacks-from_one, at-long, long-at}
use Rattle.etcs_check.proofs.SoundLemmas.{pair-equal, pair-says}
use Rattle.etcs_check.proofs.AspectLemmas.{taken-at, fresh-says, told_place, untold-is}

-- ---- aspects

module _ (aspects : List (List Telegram)) (a : ℕ) (group : List Telegram) where
  abbrev fact : Rule → ℕ → Telegram → Bool
  fact rule = balise_fact (first_aspect aspects) (take a aspects) group rule

  at : (rule : Rule) (b : ℕ) → element_passes group b (fact rule b) ≡ false → (t : Telegram) → At group b t → fact rule b t ≡ false
  at rule b none t here = sym (element_passes-at group b (fact rule b) t here) ∙ none

  none_at : (rule : Rule) (b : ℕ) → ((t : Telegram) → At group b t → fact rule b t ≡ false) → element_passes group b (fact rule b) ≡ false
  none_at rule b h = element_passes-none group b (fact rule b) h

  long_at : (reach : TrackPacket → Option Reach) (run : Run) (b k : ℕ) → element_passes (aspect_packets group (Some b)) k (is_short_profile reach (aspect_speech group) run (Some b)) ≡ false → IsLongProfile reach group run b k
  long_at reach run b k none t p here there =
      at-long reach (group_message run group) run (is_silent run t.header.dup (length group) b) p (sym (profile_as reach group run b k t p here there) ∙ none)

  none_short_at : (reach : TrackPacket → Option Reach) (run : Run) (b k : ℕ) → IsLongProfile reach group run b k → element_passes (aspect_packets group (Some b)) k (is_short_profile reach (aspect_speech group) run (Some b)) ≡ false
  none_short_at reach run b k part = element_passes-none (aspect_packets group (Some b)) k (is_short_profile reach (aspect_speech group) run (Some b)) (λ p at.
      let s = packet_stands group b k p at in
      short_as reach group run b s.0 p s.1 ∙ long-at reach (group_message run group) run (is_silent run s.0.header.dup (length group) b) p (part s.0 p s.1 s.2))

  pub aspect_holds : (rule : Rule) (run : Option Run) (b k : Option ℕ) → aspect_fact (first_aspect aspects) (take a aspects) group rule run b k ≡ false → AspectPart aspects a group rule run b k
  aspect_holds rules.PositionWrong None (Some b) None none = λ t here. eqb-true _ _ (not-false _ (at rules.PositionWrong b none t here))
  aspect_holds rules.TotalWrong None (Some b) None none = λ t here. eqb-true _ _ (not-false _ (at rules.TotalWrong b none t here))
  aspect_holds rules.HeaderDiffers None (Some b) None none = λ t first here at0. alike-says t first (ap (λ o. header_differs o t) (sym at0) ∙ at rules.HeaderDiffers b none t here)
  aspect_holds rules.MarkOutside None (Some b) None none = λ t here. inside-says group b t here (at rules.MarkOutside b none t here)
  aspect_holds rules.MarkUnanswered None (Some b) None none = answered-says group b (at rules.MarkUnanswered b none)
  aspect_holds rules.CounterUnfit None (Some b) None none = λ t here. eqb-false _ _ (at rules.CounterUnfit b none t here)
  aspect_holds rules.CountersDiffer None (Some b) None none = λ j t u here low first.
      same_Some t.header.counter u.header.counter (sym (counter-says group t (at rules.CountersDiffer b none t here) low) ∙ first_counter-is group j u first)
  aspect_holds rules.DuplicatesDiffer (Some run) (Some b) None none = λ t u here next.
      pair-equal run t u (ap (pair_differs run t) (sym next) ∙ sym (element_passes-at group b (λ t. pair_differs run t (slice_get group (b + 1))) t here) ∙ none)
  aspect_holds rules.NotModelled None (Some b) (Some k) none = λ t p here there. not-false _ (sym (packet_as group b k is_unmodelled t p here there) ∙ none)
  aspect_holds rules.NoGradient (Some run) None None none = one-from_lacks gradient_reach (group_message run group) none
  aspect_holds rules.GradientShort (Some run) (Some b) (Some k) none = long_at gradient_reach run b k none
  aspect_holds rules.NoSpeed (Some run) None None none = one-from_lacks speed_reach (group_message run group) none
  aspect_holds rules.SpeedShort (Some run) (Some b) (Some k) none = long_at speed_reach run b k none
  aspect_holds rules.MarksDiffer None (Some b) None none = λ t first here at_f.
      (Decides-same_mark t.header.dup first.header.dup).0 (not-false _ (ap (λ o. mark_differs o t) (sym at_f) ∙ at rules.MarksDiffer b none t here))
  aspect_holds rules.NotToldApart None (Some b) None none = λ c q t u lt here has low same.
      fresh-says aspects a t (at rules.NotToldApart b none t here) c q u lt has low (sym same)
  aspect_holds rule run b k none = tt

  pub aspect_unbroken : (rule : Rule) (run : Option Run) (b k : Option ℕ) → AspectPart aspects a group rule run b k → aspect_fact (first_aspect aspects) (take a aspects) group rule run b k ≡ false
  aspect_unbroken rules.PositionWrong None (Some b) None part = none_at rules.PositionWrong b (λ t here. not_from_true _ (eq-eqb _ _ (part t here)))
  aspect_unbroken rules.TotalWrong None (Some b) None part = none_at rules.TotalWrong b (λ t here. not_from_true _ (eq-eqb _ _ (part t here)))
  aspect_unbroken rules.HeaderDiffers None (Some b) None part = none_at rules.HeaderDiffers b (λ t here. each_of (slice_get (first_aspect aspects) 0) (λ o. header_differs o t ≡ false) refl (λ f at0.
      alike-is t f (part t f here at0)))
  aspect_unbroken rules.MarkOutside None (Some b) None part = none_at rules.MarkOutside b (λ t here. inside-is group b t here (part t here))
  aspect_unbroken rules.MarkUnanswered None (Some b) None part = none_at rules.MarkUnanswered b (λ t here. answered-is group b part)
  aspect_unbroken rules.CounterUnfit None (Some b) None part = none_at rules.CounterUnfit b (λ t here. ne_eqb _ _ (part t here))
  aspect_unbroken rules.CountersDiffer None (Some b) None part = none_at rules.CountersDiffer b (λ t here. equal-is group b t here (λ j u low first. part j t u here low first))
  aspect_unbroken rules.DuplicatesDiffer (Some run) (Some b) None part = element_passes-none group b (λ t. pair_differs run t (slice_get group (b + 1))) (λ t here. false_from_ne_true _ (λ differs.
      let p = pair-says run t (slice_get group (b + 1)) differs in
      p.4 (part t p.0 here p.1 p.2 p.3)))
  aspect_unbroken rules.NotModelled None (Some b) (Some k) part = element_passes-none (aspect_packets group (Some b)) k is_unmodelled (λ p here.
      let s = packet_stands group b k p here in
      not_from_true _ (part s.0 p s.1 s.2))
  aspect_unbroken rules.NoGradient (Some run) None None part = lacks-from_one gradient_reach (group_message run group) part
  aspect_unbroken rules.GradientShort (Some run) (Some b) (Some k) part = none_short_at gradient_reach run b k part
  aspect_unbroken rules.NoSpeed (Some run) None None part = lacks-from_one speed_reach (group_message run group) part
  aspect_unbroken rules.SpeedShort (Some run) (Some b) (Some k) part = none_short_at speed_reach run b k part
  aspect_unbroken rules.MarksDiffer None (Some b) None part = none_at rules.MarksDiffer b (λ t here. each_of (slice_get (first_aspect aspects) b) (λ o. mark_differs o t ≡ false) refl (λ f at_f.
      not_from_true _ ((Decides-same_mark t.header.dup f.header.dup).1 (part t f here at_f))))
  aspect_unbroken rules.NotToldApart None (Some b) None part = none_at rules.NotToldApart b (λ t here. false_from_ne_true _ (λ taken.
      let r = taken-at aspects a t taken in
      part r.0 r.1 t r.2 r.3 here r.4 r.5 (sym r.6)))
  aspect_unbroken rule None None (Some k) part = refl
  aspect_unbroken rule (Some run) None (Some k) part = refl
  aspect_unbroken rule None (Some b) None part = element_passes-none group b (fact rule b) (λ t here. refl)
  aspect_unbroken rule run b k part = refl

-- ---- a group as a whole

module _ (new : Type 0) (used : Bool) (aspects : List (List Telegram)) (controlled : IsControlled aspects) where
  pub whole_holds : (used ≡ false → new) → (rule : Rule) (run : Option Run) (b k : Option ℕ) → whole_fact used aspects rule run b k ≡ false → GroupPart new aspects rule run b k
  whole_holds is_new rules.IdentityUsed None None None none = is_new none
  whole_holds is_new rules.NotToldApart None (Some b) None none = λ many.
      told_place aspects controlled many b (λ f at. sym (element_passes-at (first_aspect aspects) b (is_ambiguous aspects b) f at) ∙ none)
  whole_holds is_new rule run b k none = tt

  pub whole_unbroken : (new → used ≡ false) → (rule : Rule) (run : Option Run) (b k : Option ℕ) → GroupPart new aspects rule run b k → whole_fact used aspects rule run b k ≡ false
  whole_unbroken unused rules.IdentityUsed None None None part = unused part
  whole_unbroken unused rules.NotToldApart None (Some b) None part = element_passes-none (first_aspect aspects) b (is_ambiguous aspects b) (λ t at. untold-is aspects controlled b t at part)
  whole_unbroken unused rule run b k part = refl

-- ---- messages

module _ (packets : List TrackPacket) where
  packets_hold : (rule : Rule) (run : Option Run) (b k : Option ℕ) → packet_fact (message_speech packets) rule run b k ≡ false → PacketsPart packets rule run b k
  packets_hold rules.NotModelled None None (Some k) none = λ p at. not-false _ (sym (element_passes-at packets k is_unmodelled p at) ∙ none)
  packets_hold rules.NoGradient (Some run) None None none = one-from_lacks gradient_reach (filter (holds run) packets) none
  packets_hold rules.GradientShort (Some run) None (Some k) none = λ p at.
      at-long gradient_reach (filter (holds run) packets) run false p (sym (element_passes-at packets k (is_short_profile gradient_reach (message_speech packets) run None) p at) ∙ none) refl
  packets_hold rules.NoSpeed (Some run) None None none = one-from_lacks speed_reach (filter (holds run) packets) none
  packets_hold rules.SpeedShort (Some run) None (Some k) none = λ p at.
      at-long speed_reach (filter (holds run) packets) run false p (sym (element_passes-at packets k (is_short_profile speed_reach (message_speech packets) run None) p at) ∙ none) refl
  packets_hold rule run b k none = tt

  packets_unbroken : (rule : Rule) (run : Option Run) (b k : Option ℕ) → PacketsPart packets rule run b k → packet_fact (message_speech packets) rule run b k ≡ false
  packets_unbroken rules.NotModelled None None (Some k) part = element_passes-none packets k is_unmodelled (λ p at. not_from_true _ (part p at))
  packets_unbroken rules.NoGradient (Some run) None None part = lacks-from_one gradient_reach (filter (holds run) packets) part
  packets_unbroken rules.GradientShort (Some run) None (Some k) part =
      element_passes-none packets k (is_short_profile gradient_reach (message_speech packets) run None) (λ p at. long-at gradient_reach (filter (holds run) packets) run false p (λ _. part p at))
  packets_unbroken rules.NoSpeed (Some run) None None part = lacks-from_one speed_reach (filter (holds run) packets) part
  packets_unbroken rules.SpeedShort (Some run) None (Some k) part =
      element_passes-none packets k (is_short_profile speed_reach (message_speech packets) run None) (λ p at. long-at speed_reach (filter (holds run) packets) run false p (λ _. part p at))
  packets_unbroken rule None (Some b) (Some k) part = refl
  packets_unbroken rule (Some run) (Some b) (Some k) part = refl
  packets_unbroken rule run b k part = refl

pub message_holds : (m : Message) (rule : Rule) (run : Option Run) (b k : Option ℕ) → message_fact m rule None run b k ≡ false → MessagePart m rule run b k
message_holds (messages.Movement m) rule run b k none = packets_hold m.packets rule run b k none
message_holds (messages.Position m) rule run b k none = tt

pub message_unbroken : (m : Message) (rule : Rule) (run : Option Run) (b k : Option ℕ) → MessagePart m rule run b k → message_fact m rule None run b k ≡ false
message_unbroken (messages.Movement m) rule run b k part = packets_unbroken m.packets rule run b k part
message_unbroken (messages.Position m) rule run b k part = refl

-- a fact about a message names no aspect
pub message_whole : (m : Message) (rule : Rule) (aspect : Option ℕ) (run : Option Run) (b k : Option ℕ) → message_fact m rule aspect run b k ≡ true → aspect ≡ None
message_whole (messages.Movement m) rule None run b k h = refl
message_whole m rule aspect run b k h = absurd (both_ways false refl h)
