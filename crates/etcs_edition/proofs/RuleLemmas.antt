-- The rules of the edition require the parts of soundness that findings of the check are about.
use Rattle.std.proofs.Common.{◌↔◌, ℕ, List, filter, Option, Some, None, sym, ◌∙◌}
use Rattle.etcs_profile.specs.Track.{holds}
use Rattle.etcs_profile.specs.declared.run.Run.{Run}
use Rattle.etcs_profile.specs.declared.track.TrackPacket.{TrackPacket}
use Rattle.etcs_group.specs.Group.{Telegrams, Aspects}
use Rattle.etcs_group.specs.Packets.{group_message}
use Rattle.etcs_check.specs.Violation.{AspectPart, GroupPart, PacketsPart, MessagePart, IsNew, HasSiteParts, HasParts}
use Rattle.etcs_check.specs.declared.finding.Finding.{Finding}
use Rattle.etcs_check.specs.declared.finding.Rule.{Rule}
use Rattle.etcs_check.specs.declared.finding.Rule.TheVariants as rules
use Rattle.etcs_check.specs.declared.finding.Site.{Site}
use Rattle.etcs_check.specs.declared.finding.Site.TheVariants as sites
use Rattle.etcs_radio.specs.declared.message.Message.{Message}
use Rattle.etcs_radio.specs.declared.message.Message.TheVariants as messages
use Rattle.etcs_edition.proofs.ReachLemmas.{f10, f11, f12, f13}
use Rattle.etcs_edition.proofs.SoundLemmas.{identity_same}
use Rattle.etcs_edition.specs.Findings.{AspectHolds, GroupHolds, PacketsHold, MessageHolds, HoldsAt, RuleHolds}

same : {A : Type 0} → A ↔ A
same = (λ h. h, λ h. h)

f9 : (aspects : Aspects) (a : ℕ) (group : Telegrams) (b k : ℕ)
    → AspectHolds aspects a group rules.NotModelled None (Some b) (Some k) ↔ AspectPart aspects a group rules.NotModelled None (Some b) (Some k)
f9 aspects a group b k = (λ h t p at. h t at p, λ h t at p. h t p at)

pub aspect_agrees : (aspects : Aspects) (a : ℕ) (group : Telegrams) (rule : Rule) (run : Option Run) (b k : Option ℕ)
    → AspectHolds aspects a group rule run b k ↔ AspectPart aspects a group rule run b k
aspect_agrees aspects a group rules.PositionWrong None (Some b) None = same
aspect_agrees aspects a group rules.TotalWrong None (Some b) None = same
aspect_agrees aspects a group rules.HeaderDiffers None (Some b) None = same
aspect_agrees aspects a group rules.MarkOutside None (Some b) None = same
aspect_agrees aspects a group rules.MarkUnanswered None (Some b) None = same
aspect_agrees aspects a group rules.CounterUnfit None (Some b) None = same
aspect_agrees aspects a group rules.CountersDiffer None (Some b) None = same
aspect_agrees aspects a group rules.DuplicatesDiffer (Some run) (Some b) None = same
aspect_agrees aspects a group rules.NotModelled None (Some b) (Some k) = f9 aspects a group b k
aspect_agrees aspects a group rules.NoGradient (Some run) None None = f10 (group_message run group)
aspect_agrees aspects a group rules.GradientShort (Some run) (Some b) (Some k) = (
  λ h t p at there said held. (f11 (group_message run group) p).0 (h t p at there said held),
  λ h t p at there said held. (f11 (group_message run group) p).1 (h t p at there said held),
)
aspect_agrees aspects a group rules.NoSpeed (Some run) None None = f12 (group_message run group)
aspect_agrees aspects a group rules.SpeedShort (Some run) (Some b) (Some k) = (
  λ h t p at there said held. (f13 (group_message run group) p).0 (h t p at there said held),
  λ h t p at there said held. (f13 (group_message run group) p).1 (h t p at there said held),
)
aspect_agrees aspects a group rules.MarksDiffer None (Some b) None = same
aspect_agrees aspects a group rules.NotToldApart None (Some b) None = same
aspect_agrees aspects a group rule run b k = same

pub group_agrees : (groups : List Aspects) (g : ℕ) (aspects : Aspects) (rule : Rule) (run : Option Run) (b k : Option ℕ)
    → GroupHolds groups g aspects rule run b k ↔ GroupPart (IsNew groups g aspects) aspects rule run b k
group_agrees groups g aspects rules.IdentityUsed None None None = (
  λ h i earlier before at is. h i earlier before at (identity_same earlier ∙ is ∙ sym (identity_same aspects)),
  λ h i earlier before at is. h i earlier before at (sym (identity_same earlier) ∙ is ∙ identity_same aspects),
)
group_agrees groups g aspects rules.NotToldApart None (Some b) None = same
group_agrees groups g aspects rule run b k = same

pub packets_agree : (packets : List TrackPacket) (rule : Rule) (run : Option Run) (b k : Option ℕ)
    → PacketsHold packets rule run b k ↔ PacketsPart packets rule run b k
packets_agree packets rules.NotModelled None None (Some k) = same
packets_agree packets rules.NoGradient (Some run) None None = f10 (filter (holds run) packets)
packets_agree packets rules.GradientShort (Some run) None (Some k) = (
  λ h p at held. (f11 (filter (holds run) packets) p).0 (h p at held),
  λ h p at held. (f11 (filter (holds run) packets) p).1 (h p at held),
)
packets_agree packets rules.NoSpeed (Some run) None None = f12 (filter (holds run) packets)
packets_agree packets rules.SpeedShort (Some run) None (Some k) = (
  λ h p at held. (f13 (filter (holds run) packets) p).0 (h p at held),
  λ h p at held. (f13 (filter (holds run) packets) p).1 (h p at held),
)
packets_agree packets rule run b k = same

pub message_agrees : (m : Message) (rule : Rule) (run : Option Run) (b k : Option ℕ) → MessageHolds m rule run b k ↔ MessagePart m rule run b k
message_agrees (messages.Movement m) rule run b k = packets_agree m.packets rule run b k
message_agrees (messages.Position m) rule run b k = same

at_site : (groups : List Aspects) (messages : List Message) (f : Finding) (s : Site)
    → HoldsAt groups messages f s ↔ HasSiteParts groups messages f s
at_site groups messages f (sites.Group g) = (
  λ h aspects at.
      let x = h aspects at in (
        λ none. (group_agrees groups g aspects f.rule f.dir f.balise f.packet).0 (x.0 none),
        λ a group there named. (aspect_agrees aspects a group f.rule f.dir f.balise f.packet).0 (x.1 a group there named),
      ),
  λ h aspects at.
      let x = h aspects at in (
        λ none. (group_agrees groups g aspects f.rule f.dir f.balise f.packet).1 (x.0 none),
        λ a group there named. (aspect_agrees aspects a group f.rule f.dir f.balise f.packet).1 (x.1 a group there named),
      ),
)
at_site groups messages f (sites.Message i) = (
  λ h m at none. (message_agrees m f.rule f.dir f.balise f.packet).0 (h m at none),
  λ h m at none. (message_agrees m f.rule f.dir f.balise f.packet).1 (h m at none),
)

pub rules_agree : (groups : List Aspects) (messages : List Message) (f : Finding)
    → RuleHolds groups messages f ↔ HasParts groups messages f
rules_agree groups messages f = at_site groups messages f f.site
