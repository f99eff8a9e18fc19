-- The laws that join findings and soundness.
use Rattle.std.specs.Prelude.{◌≡◌, ◌≢◌, ◌↔◌, ℕ, ◌<◌, Bool, false, List, [], length, Option, is_some, IsTrue}
use Rattle.etcs_profile.specs.Track.{track_number}
use Rattle.etcs_profile.specs.declared.run.Run.{Run}
use Rattle.etcs_profile.specs.declared.track.TrackPacket.{TrackPacket}
use Rattle.etcs_telegram.specs.Record.{Telegram}
use Rattle.etcs_radio.specs.declared.message.Message.{Message}
use Rattle.etcs_group.specs.Places.{At}
use Rattle.etcs_group.specs.Missed.{IsSetOf}
use Rattle.etcs_group.specs.Reading.{group_reading}
use Rattle.etcs_group.specs.Laws.{IsDecided, IsMixtureDecided}
use Rattle.etcs_group.specs.Controlled.{IsControlled}
use Rattle.etcs_group.specs.Mixture.{Fits}
use Rattle.etcs_group.specs.Group.{Telegrams, Aspects}
use Rattle.etcs_check.specs.Duplicates.{same_packet, same_telegram}
use Rattle.etcs_check.specs.Profiles.{gradient_reach, speed_reach}
use Rattle.etcs_check.specs.Soundness.{IsSoundGroup, IsSoundControlled, IsSoundMessage, IsSoundLine, group_identity}
use Rattle.etcs_check.specs.Aspects.{is_used}
use Rattle.etcs_check.specs.Line.{findings}
use Rattle.etcs_check.specs.Facts.{group_fact, StatesFact}
use Rattle.etcs_check.specs.Order.{IsFindings}
use Rattle.etcs_check.specs.Violation.{HasParts, Violates, IsNew}
use Rattle.etcs_check.specs.declared.finding.Finding.{Finding}
use Rattle.etcs_check.specs.declared.finding.Rule.{Rule}
use Rattle.etcs_check.specs.declared.finding.Site.{Site}
use Rattle.etcs_check.specs.declared.finding.Site.TheVariants as sites

-- Two packets are equal if and only if the numbers in their rows are equal.
abbrev pub PacketsAreTheirNumbers : Type 0
PacketsAreTheirNumbers = (p q : TrackPacket) → IsTrue (same_packet p q) ↔ (p ≡ q)

-- Two telegrams are equal if and only if their sizes, their headers and the numbers in the rows of their
-- packets are equal.
abbrev pub TelegramsAreTheirParts : Type 0
TelegramsAreTheirParts = (t u : Telegram) → IsTrue (same_telegram t u) ↔ (t ≡ u)

-- A packet that is a gradient profile is packet 21, and one that is a speed profile is packet 27.
abbrev pub ProfilesAreTheirPackets : Type 0
ProfilesAreTheirPackets =
    ((p : TrackPacket) → IsTrue (is_some (gradient_reach p)) → track_number p ≡ 21)
    × ((p : TrackPacket) → IsTrue (is_some (speed_reach p)) → track_number p ≡ 27)

-- There is no fact against a controlled group if and only if it is sound and no earlier group has its
-- identity.
abbrev pub NoFindingMeansSoundGroup : Type 0
NoFindingMeansSoundGroup = (earlier : List Aspects) (aspects : Aspects) → IsControlled aspects
    → ((rule : Rule) (aspect : Option ℕ) (run : Option Run) (b k : Option ℕ)
    → group_fact (is_used earlier aspects) aspects rule aspect run b k ≡ false)
    ↔ (IsSoundControlled aspects × ((i : ℕ) (h : Aspects) → At earlier i h
    → group_identity h ≢ group_identity aspects))

-- each group has aspects, all with the same number of balises, which is not 0
abbrev pub AreControlled : List Aspects → Type 0
AreControlled groups = (i : ℕ) (aspects : Aspects) → At groups i aspects → IsControlled aspects

-- A line has no finding if and only if it is sound.
abbrev pub NoFindingMeansSoundLine : Type 0
NoFindingMeansSoundLine = (groups : List Aspects) (messages : List Message) → AreControlled groups
    → (findings groups messages ≡ []) ↔ IsSoundLine groups messages

-- no finding of the list names the site
abbrev pub IsUnnamed : List Finding → Site → Type 0
IsUnnamed found site = (i : ℕ) (f : Finding) → At found i f → f.site ≢ site

-- The findings of the list name only the groups that are not sound or have the identity of an earlier
-- group, and the messages that are not sound. They name all of these.
abbrev pub NamesTheUnsound : List Aspects → List Message → List Finding → Type 0
NamesTheUnsound groups messages found =
    ((g : ℕ) (aspects : Aspects) → At groups g aspects
    → IsUnnamed found (sites.Group g) ↔ (IsSoundControlled aspects × IsNew groups g aspects))
    × ((i : ℕ) (m : Message) → At messages i m → IsUnnamed found (sites.Message i) ↔ IsSoundMessage m)

-- The findings of a line name what is not sound, the groups with the identity of an earlier group, and no
-- others.
abbrev pub UnnamedMeansSound : Type 0
UnnamedMeansSound = (groups : List Aspects) (messages : List Message) → AreControlled groups
    → NamesTheUnsound groups messages (findings groups messages)

-- Each finding states a fact at its location, where its part of soundness does not hold.
abbrev pub FindingsAreFacts : Type 0
FindingsAreFacts = (groups : List Aspects) (messages : List Message) (i : ℕ) (f : Finding)
    → At (findings groups messages) i f
    → StatesFact groups messages f × (AreControlled groups → Violates groups messages f)

-- Wherever a rule has no finding, its part of soundness holds.
abbrev pub PartsHoldUnlessFound : Type 0
PartsHoldUnlessFound = (groups : List Aspects) (messages : List Message) (f : Finding)
    → AreControlled groups → ((i : ℕ) → At (findings groups messages) i f → ⊥) → HasParts groups messages f

-- In a sound line each part of soundness holds everywhere, so there can be no violation.
abbrev pub ASoundLineHasNoViolation : Type 0
ASoundLineHasNoViolation = (groups : List Aspects) (messages : List Message) (f : Finding)
    → AreControlled groups → IsSoundLine groups messages
    → HasParts groups messages f × (Violates groups messages f → ⊥)

-- Each fact has its finding.
abbrev pub FactsAreFindings : Type 0
FactsAreFindings = (groups : List Aspects) (messages : List Message) (f : Finding)
    → StatesFact groups messages f → (i : ℕ) × At (findings groups messages) i f

-- The list of a line's findings is the only list that has each fact once, and only facts, in order.
abbrev pub FindingsAreTheFactsInOrder : Type 0
FindingsAreTheFactsInOrder = (groups : List Aspects) (messages : List Message) (found : List Finding)
    → (found ≡ findings groups messages) ↔ IsFindings groups messages found

-- The covered readings of a sound group are accepted. Every other reading is refused: as Nothing if all
-- places are missed, otherwise as Absent at the least lost place.
abbrev pub SoundGroupsAreDecided : Type 0
SoundGroupsAreDecided = (group : Telegrams) (run : Run) (missed : ℕ → Bool)
    → IsSoundGroup group → 0 < length group → IsSetOf group missed
    → IsDecided run group missed (group_reading run missed group)

-- In a sound controlled group a mixture is accepted if and only if it is covered and one aspect has all
-- that it shows. Its message is then the message of this aspect with nothing missed.
abbrev pub SoundMixturesAreDecided : Type 0
SoundMixturesAreDecided = (run : Run) (aspects : Aspects) (shown : ℕ → Option ℕ)
    → IsControlled aspects → IsSoundControlled aspects → Fits aspects shown
    → IsMixtureDecided run aspects shown
