-- A group, a message or a line is sound if and only if there is no fact against it. The findings of a line
-- with one more group or message.
use Rattle.std.proofs.Common.{◌≡◌, ◌≢◌, ◌↔◌, ℕ, zero, suc, ◌+◌, ◌<◌, Bool, true, false, List, [], ◌∷◌, ◌++◌, length, get_or, take, Option, Some, None, refl, sym, ap, ap₂, subst, ◌∙◌, arith}
use Rattle.std.specs.List.{filter}
use Rattle.std.proofs.lemmas.Bool.{both_ways, cases_lt, or_parts, false_from_ne_true}
use Rattle.std.proofs.lemmas.List.{append-nil, append_assoc, take-append-le, take_at}
use Rattle.std.proofs.lemmas.Option.{none-some, same_Some, slice_get_within, slice_get-get_or, get_or_from_slice_get}
use mathlib.Core.Logic.{inl, inr}
use Rattle.etcs_profile.specs.Track.{holds}
use Rattle.etcs_profile.specs.declared.run.Run.{Run}
use Rattle.etcs_profile.specs.declared.track.TrackPacket.{TrackPacket}
use Rattle.etcs_profile.specs.declared.reach.Reach.{Reach}
use Rattle.etcs_radio.specs.declared.message.Message.{Message}
use Rattle.etcs_radio.specs.declared.message.Message.TheVariants as messages
use Rattle.etcs_telegram.specs.Record.{Telegram}
use Rattle.etcs_group.specs.Places.{At}
use Rattle.etcs_group.proofs.PlaceLemmas.{element_passes-at, some_at, At-take, at_take}
use Rattle.etcs_group.specs.Group.{is_modelled}
use Rattle.etcs_group.specs.Controlled.{IsControlled}
use Rattle.etcs_check.specs.Aspects.{is_used}
use Rattle.etcs_check.specs.Facts.{aspect_fact, whole_fact, group_fact, message_fact, site_fact}
use Rattle.etcs_check.specs.Findings.{numbered_findings}
use Rattle.etcs_check.specs.Violation.{IsLong, IsNew, GroupPart, PacketsPart, MessagePart, NamesAspect}
use Rattle.etcs_check.specs.Laws.{AreControlled, NoFindingMeansSoundLine}
use Rattle.etcs_check.specs.Line.{group_findings, line_group_findings, group_list, line_message_findings, message_list, findings}
use Rattle.etcs_check.specs.Profiles.{gradient_reach, speed_reach}
use Rattle.etcs_check.specs.Soundness.{IsSoundControlled, IsSoundMessage, IsSoundLine, first_aspect}
use Rattle.etcs_check.specs.declared.finding.Finding.{Finding}
use Rattle.etcs_check.specs.declared.finding.Rule.{Rule}
use Rattle.etcs_check.specs.declared.finding.Rule.TheVariants as rules
use Rattle.etcs_check.specs.declared.finding.Site.{Site}
use Rattle.etcs_check.specs.declared.finding.Site.TheVariants as sites
use Rattle.etcs_check.proofs.AspectLemmas.{first_long, sound_group, group_parts}
use Rattle.etcs_check.proofs.CellLemmas.{HasNoGroupFact, each_fact_is_listed, findings_state, message_states}
use Rattle.etcs_check.proofs.FactLemmas.{passed, group_means, aspect_stands}
use Rattle.etcs_check.proofs.IdentityLemmas.{identity-at, unused-is, unused-says}
use Rattle.etcs_check.proofs.MemberLemmas.{none_at, at-filter, filter-at}
use Rattle.etcs_check.proofs.PartLemmas.{aspect_holds, aspect_unbroken, whole_holds, whole_unbroken, message_holds, message_unbroken, message_whole}
use Rattle.etcs_check.proofs.ProfileLemmas.{HaveProfiles, gradients_in, speeds_in, profiles-from, profiles-one, profiles-long}

-- ---- groups

-- there is no fact against a group if and only if it is sound and its identity is new, which `used` denies
module _ (new : Type 0) (used : Bool) (aspects : List (List Telegram)) (controlled : IsControlled aspects) where
  pub silent_sound : (used ≡ false → new) → HasNoGroupFact used aspects → IsSoundControlled aspects × new
  silent_sound is_new none = (sound_group new aspects controlled (whole, λ a group at rule run b k. aspect_holds aspects a group rule run b k (aspect_silent a group at rule run b k)), whole rules.IdentityUsed None None None)
    where
      whole : (rule : Rule) (run : Option Run) (b k : Option ℕ) → GroupPart new aspects rule run b k
      whole rule run b k = whole_holds new used aspects controlled is_new rule run b k (or_parts (whole_fact used aspects rule run b k) _ (none rule None run b k)).0

      name : (a : ℕ) → (aspect : Option ℕ) × NamesAspect aspects a aspect
      name a = elim (cases_lt 1 (length aspects)) [
        | inl many ↦ (Some a, (λ _. refl, λ few. absurd (omega arith)))
        | inr few ↦ (None, (λ many. absurd (omega arith), λ _. refl))
      ]

      aspect_silent : (a : ℕ) (group : List Telegram) → At aspects a group → (rule : Rule) (run : Option Run) (b k : Option ℕ) → aspect_fact (first_aspect aspects) (take a aspects) group rule run b k ≡ false
      aspect_silent a group at rule run b k = false_from_ne_true _ (λ h.
          let n = name a in
          both_ways _ (none rule n.0 run b k) (aspect_stands used aspects a group at rule n.0 run b k n.1 h))

  pub sound_silent : (new → used ≡ false) → IsSoundControlled aspects × new → HasNoGroupFact used aspects
  sound_silent unused sound rule aspect run b k = false_from_ne_true _ (λ h.
      let parts = group_parts aspects controlled sound.0 new sound.1 in
      elim (group_means used aspects rule aspect run b k h) [
        | inl w ↦ both_ways _ (whole_unbroken new used aspects controlled unused rule run b k (parts.0 rule run b k)) w.1
        | inr r ↦ both_ways _ (aspect_unbroken aspects r.0 r.1 rule run b k (parts.1 r.0 r.1 r.2 rule run b k)) r.4
      ])

-- ---- messages

-- each part of a message
abbrev HasMessageParts : Message → Type 0
HasMessageParts m = (rule : Rule) (run : Option Run) (b k : Option ℕ) → MessagePart m rule run b k

held_long : (reach : TrackPacket → Option Reach) (packets : List TrackPacket) (run : Run) → ((k : ℕ) (p : TrackPacket) → At packets k p → holds run p ≡ true → IsLong reach (filter (holds run) packets) p)
    → (j : ℕ) (p : TrackPacket) → At (filter (holds run) packets) j p → IsLong reach (filter (holds run) packets) p
held_long reach packets run long j p at = let f = filter-at (holds run) packets j p at in long f.0 p f.1 f.2

message_sound : (m : Message) → HasMessageParts m → IsSoundMessage m
message_sound (messages.Position m) parts = tt
message_sound (messages.Movement m) parts = (
  λ k d lt. parts rules.NotModelled None None (Some k) (get_or m.packets k d) (slice_get-get_or m.packets k d lt),
  λ run i a limit at is. (
    profiles-from gradient_reach (filter (holds run) m.packets) (parts rules.NoGradient (Some run) None None) (held_long gradient_reach m.packets run (λ k. parts rules.GradientShort (Some run) None (Some k))) i a limit at is,
    profiles-from speed_reach (filter (holds run) m.packets) (parts rules.NoSpeed (Some run) None None) (held_long speed_reach m.packets run (λ k. parts rules.SpeedShort (Some run) None (Some k))) i a limit at is,
  ),
)

long_held : (reach : TrackPacket → Option Reach) (packets : List TrackPacket) (run : Run) → HaveProfiles reach (filter (holds run) packets) → (k : ℕ) (p : TrackPacket) → At packets k p → holds run p ≡ true → IsLong reach (filter (holds run) packets) p
long_held reach packets run h k p at held = let f = at-filter (holds run) packets k p at held in profiles-long reach (filter (holds run) packets) h f.0 p f.1

sound_message : (m : Message) → IsSoundMessage m → HasMessageParts m
sound_message (messages.Position m) sound = λ rule run b k. tt
sound_message (messages.Movement m) sound = go
  where
    go : (rule : Rule) (run : Option Run) (b k : Option ℕ) → PacketsPart m.packets rule run b k
    go rules.NotModelled None None (Some k) = λ p at. subst (λ q. is_modelled q ≡ true) (get_or_from_slice_get m.packets k p p at) (sound.0 k p (slice_get_within m.packets k p at))
    go rules.NoGradient (Some run) None None = profiles-one gradient_reach (filter (holds run) m.packets) (gradients_in (filter (holds run) m.packets) (sound.1 run))
    go rules.GradientShort (Some run) None (Some k) = long_held gradient_reach m.packets run (gradients_in (filter (holds run) m.packets) (sound.1 run)) k
    go rules.NoSpeed (Some run) None None = profiles-one speed_reach (filter (holds run) m.packets) (speeds_in (filter (holds run) m.packets) (sound.1 run))
    go rules.SpeedShort (Some run) None (Some k) = long_held speed_reach m.packets run (speeds_in (filter (holds run) m.packets) (sound.1 run)) k
    go rule run b k = tt

-- ---- sites of a line

-- no earlier group has the identity
pub new-is : (groups : List (List (List Telegram))) (g : ℕ) (aspects : List (List Telegram)) → IsNew groups g aspects → is_used (take g groups) aspects ≡ false
new-is groups g aspects new = unused-is (take g groups) aspects (λ i h at. let t = At-take g groups i h at in new i h t.0 t.1)

pub new-says : (groups : List (List (List Telegram))) (g : ℕ) (aspects : List (List Telegram)) → IsControlled aspects → is_used (take g groups) aspects ≡ false → IsNew groups g aspects
new-says groups g aspects controlled unused i h lt here =
    let f = some_at (first_aspect aspects) 0 (first_long aspects controlled) in
    unused-says (take g groups) aspects f.0.header.identity (identity-at (first_aspect aspects) f.0 f.1) unused i h (at_take g groups i h lt here)

-- no finding that names the site states a fact
abbrev pub IsSilent : List (List (List Telegram)) → List Message → Site → Type 0
IsSilent groups messages s = (f : Finding) → f.site ≡ s → site_fact groups messages s f ≡ false

module _ (groups : List (List (List Telegram))) (messages : List Message) where
  pub group_law : (g : ℕ) (aspects : List (List Telegram)) → At groups g aspects → IsControlled aspects → IsSilent groups messages (sites.Group g) ↔ (IsSoundControlled aspects × IsNew groups g aspects)
  group_law g aspects at controlled =
      let used = is_used (take g groups) aspects in (
        λ silent. silent_sound (IsNew groups g aspects) used aspects controlled (new-says groups g aspects controlled) (λ rule aspect run b k.
            sym (element_passes-at groups g (λ aspects. group_fact (is_used (take g groups) aspects) aspects rule aspect run b k) aspects at)
            ∙ silent (record { rule = rule; site = sites.Group g; aspect = aspect; dir = run; balise = b; packet = k }) refl),
        λ sound f e. element_passes-at groups g (λ aspects. group_fact (is_used (take g groups) aspects) aspects f.rule f.aspect f.dir f.balise f.packet) aspects at
            ∙ sound_silent (IsNew groups g aspects) used aspects controlled (new-is groups g aspects) sound f.rule f.aspect f.dir f.balise f.packet,
      )

  pub message_law : (i : ℕ) (m : Message) → At messages i m → IsSilent groups messages (sites.Message i) ↔ IsSoundMessage m
  message_law i m at = (
    λ silent. message_sound m (λ rule run b k. message_holds m rule run b k (
        sym (element_passes-at messages i (λ m. message_fact m rule None run b k) m at)
        ∙ silent (record { rule = rule; site = sites.Message i; aspect = None; dir = run; balise = b; packet = k }) refl)),
    λ sound f e. element_passes-at messages i (λ m. message_fact m f.rule f.aspect f.dir f.balise f.packet) m at ∙ false_from_ne_true _ (λ h.
        both_ways _ (message_unbroken m f.rule f.dir f.balise f.packet (sound_message m sound f.rule f.dir f.balise f.packet))
        (subst (λ o. message_fact m f.rule o f.dir f.balise f.packet ≡ true) (message_whole m f.rule f.aspect f.dir f.balise f.packet h) h)),
  )

  -- ---- the line

  all_silent : findings groups messages ≡ [] → (s : Site) → IsSilent groups messages s
  all_silent none s f e = false_from_ne_true _ (λ h.
      let l = each_fact_is_listed groups messages f (subst (λ s. site_fact groups messages s f ≡ true) (sym e) h) in
      none-some f (subst (λ found. At found l.0 f) none l.1))

  sound_line : AreControlled groups → IsSoundLine groups messages → (f : Finding) (s : Site) → f.site ≡ s → site_fact groups messages s f ≡ true → ⊥
  sound_line controlled sound f (sites.Group g) e h =
      let r = passed groups g (λ aspects. group_fact (is_used (take g groups) aspects) aspects f.rule f.aspect f.dir f.balise f.packet) h in
      both_ways _ ((group_law g r.0 r.1 (controlled g r.0 r.1)).1 (sound.sound g r.0 r.1, λ i other lt at. sound.distinct i g other r.0 lt at r.1) f e) h
  sound_line controlled sound f (sites.Message i) e h =
      let r = passed messages i (λ m. message_fact m f.rule f.aspect f.dir f.balise f.packet) h in
      both_ways _ ((message_law i r.0 r.1).1 (sound.messages_sound i r.0 r.1) f e) h

pub no_finding_means_sound_line : NoFindingMeansSoundLine
no_finding_means_sound_line groups messages controlled = (
  λ none.
      let silent = all_silent groups messages none in
      let each = λ (g : ℕ) (aspects : List (List Telegram)) (at : At groups g aspects). (group_law groups messages g aspects at (controlled g aspects at)).0 (silent (sites.Group g)) in
      record {
        sound = λ g aspects at. (each g aspects at).0;
        distinct = λ i j g h lt at at'. (each j h at').1 i g lt at;
        messages_sound = λ i m at. (message_law groups messages i m at).0 (silent (sites.Message i));
      },
  λ sound. none_at (findings groups messages) (λ k f at. sound_line groups messages controlled sound f f.site refl (findings_state groups messages k f at)),
)

-- a message has findings at each place of a line, or at none
pub found_alone : (i : ℕ) (m : Message) → line_message_findings i m ≢ [] → findings [] (m ∷ []) ≢ []
found_alone i m some none = some (none_at (line_message_findings i m) (λ k f at.
    let g : Finding = record { rule = f.rule; site = sites.Message 0; aspect = f.aspect; dir = f.dir; balise = f.balise; packet = f.packet } in
    let l = each_fact_is_listed [] (m ∷ []) g (message_states (sites.Message i) m k f at).1 in
    none-some g (subst (λ found. At found l.0 g) none l.1)))

-- ---- one group or one message more

pub each_and : {X : Type 0} (P : X → Type 0) (xs : List X) (x : X) → ((i : ℕ) (y : X) → At xs i y → P y) → P x → (i : ℕ) (y : X) → At (xs ++ x ∷ []) i y → P y
each_and P [] x all now zero y at = subst P (same_Some x y at) now
each_and P [] x all now (suc i) y at = absurd (none-some y at)
each_and P (z ∷ zs) x all now zero y at = all 0 y at
each_and P (z ∷ zs) x all now (suc i) y at = each_and P zs x (λ j w at'. all (suc j) w at') now i y at

-- the findings with one more item, if the findings before it are the same
found_more : {X : Type 0} (f h : ℕ → X → List Finding) (b : ℕ) (xs : List X) (x : X) → ((i : ℕ) (y : X) → i < b + length xs → f i y ≡ h i y)
    → numbered_findings f b (xs ++ x ∷ []) ≡ numbered_findings h b xs ++ f (b + length xs) x
found_more f h b [] x same =
    let here : b ≡ b + 0 = omega arith in
    append-nil (f b x) ∙ ap (λ n. f n x) here
found_more f h b (y ∷ ys) x same =
    let next : b + 1 + length ys ≡ b + length (y ∷ ys) = omega arith in
    ap₂ ◌++◌ (same b y (omega arith)) (found_more f h (b + 1) ys x (λ i z lt. same i z (omega arith)))
    ∙ sym (append_assoc (h b y) (numbered_findings h (b + 1) ys) (f (b + 1 + length ys) x))
    ∙ ap (λ n. numbered_findings h b (y ∷ ys) ++ f n x) next

pub groups_found : (gs : List (List (List Telegram))) (g : List (List Telegram)) → group_list (gs ++ g ∷ []) ≡ group_list gs ++ group_findings (sites.Group (length gs)) (is_used gs g) g
groups_found gs g =
    let all = gs ++ g ∷ [] in
    let first : 0 + length gs ≡ length gs = omega arith in
    let more : group_list all ≡ group_list gs ++ line_group_findings all (0 + length gs) g =
    found_more (line_group_findings all) (line_group_findings gs) 0 gs g (λ i y lt. ap (λ l. group_findings (sites.Group i) (is_used l y) y) (take-append-le i gs (g ∷ []) (omega arith))) in
    more ∙ ap (λ n. group_list gs ++ line_group_findings all n g) first ∙ ap (λ l. group_list gs ++ group_findings (sites.Group (length gs)) (is_used l g) g) (take_at gs (g ∷ []) (length gs) refl)

pub messages_found : (ms : List Message) (m : Message) → message_list (ms ++ m ∷ []) ≡ message_list ms ++ line_message_findings (length ms) m
messages_found ms m =
    let first : 0 + length ms ≡ length ms = omega arith in
    let more : message_list (ms ++ m ∷ []) ≡ message_list ms ++ line_message_findings (0 + length ms) m = found_more line_message_findings line_message_findings 0 ms m (λ i y lt. refl) in
    more ∙ ap (λ n. message_list ms ++ line_message_findings n m) first
