-- What a finding means: which part of soundness does not hold at its location, and what follows for the
-- readings of its group. Each part is named as in IsWellFormed, HasOneCounter, HasEqualPairs, HasProfiles,
-- AreOneGroup, IsSoundMessage or IsSoundLine. It holds in each sound line (a_sound_line_has_no_violation),
-- and wherever its rule has no finding (parts_hold_unless_found).
use Rattle.std.specs.Prelude.{◌≡◌, ◌≢◌, ℕ, suc, ◌+◌, ◌<◌, ◌≤◌, ◌==◌, Bool, List, length, filter, Option, Some, None, is_some, IsSome, IsTrue, IsFalse, ⊤, ◌⊎◌}
use Rattle.etcs_bits.specs.declared.variables.duplicate.Dup.TheVariants as dups
use Rattle.etcs_profile.specs.Track.{holds}
use Rattle.etcs_profile.specs.declared.run.Run.{Run}
use Rattle.etcs_profile.specs.declared.run.Run.TheVariants as runs
use Rattle.etcs_profile.specs.declared.track.TrackPacket.{TrackPacket}
use Rattle.etcs_profile.specs.declared.reach.Reach.{Reach}
use Rattle.etcs_radio.specs.declared.message.Message.{Message}
use Rattle.etcs_radio.specs.declared.message.Message.TheVariants as messages
use Rattle.etcs_telegram.specs.Record.{Telegram}
use Rattle.etcs_group.specs.Places.{At}
use Rattle.etcs_group.specs.Group.{AreAlike, IsWellFormed, is_modelled, partner_place, Telegrams, Aspects}
use Rattle.etcs_group.specs.Missed.{IsCovered, none_missed}
use Rattle.etcs_group.specs.Reading.{group_reading}
use Rattle.etcs_group.specs.Assembly.{IsAccepted}
use Rattle.etcs_group.specs.Packets.{held_packets, is_silent, assembled, group_message}
use Rattle.etcs_group.specs.Controlled.{Shows, IsFixed, IsSwitched}
use Rattle.etcs_check.specs.Profiles.{packet_limit, gradient_reach, speed_reach, AreReached, Reaches}
use Rattle.etcs_check.specs.Soundness.{first_aspect, group_identity}
use Rattle.etcs_check.specs.declared.finding.Finding.{Finding}
use Rattle.etcs_check.specs.declared.finding.Rule.{Rule}
use Rattle.etcs_check.specs.declared.finding.Rule.TheVariants as rules
use Rattle.etcs_check.specs.declared.finding.Site.{Site}
use Rattle.etcs_check.specs.declared.finding.Site.TheVariants as sites

-- ---- readings

-- the set of one place
abbrev pub only : ℕ → ℕ → Bool
only b p = p == b

-- the balise of the pair b, b + 1 that is passed first
abbrev pub passed_first : Run → ℕ → ℕ
passed_first runs.Nominal b = b
passed_first runs.Reverse b = suc b

-- in each direction the reading with nothing missed is refused
abbrev pub IsNeverAccepted : Telegrams → Type 0
IsNeverAccepted group = (run : Run) → IsAccepted run (group_reading run none_missed group) → ⊥

-- the packets of the reading with nothing missed
abbrev pub full_packets : Telegrams → Run → List TrackPacket
full_packets group run = assembled run (group_reading run none_missed group)

-- the balise of a pair that is passed first may be missed, and the packets are then different from the
-- packets of the reading with nothing missed
abbrev pub DependsOnMissed : Telegrams → Run → ℕ → Type 0
DependsOnMissed group run b =
    IsCovered group (only (passed_first run b))
    × (assembled run (group_reading run (only (passed_first run b)) group) ≢ full_packets group run)

-- the packets of the reading with nothing missed are not reached
abbrev pub IsNotReached : Telegrams → Run → Type 0
IsNotReached group run = AreReached (full_packets group run) → ⊥

-- What a finding of a rule means for the readings of its aspect. For F8 and F10 to F13 this is defined only
-- for well-formed aspects.
abbrev pub AffectsReadings : Telegrams → Rule → Option Run → Option ℕ → Type 0
AffectsReadings group rules.CounterUnfit run b = IsNeverAccepted group
AffectsReadings group rules.CountersDiffer run b = IsNeverAccepted group
AffectsReadings group rules.DuplicatesDiffer (Some run) (Some b) =
    IsWellFormed group → DependsOnMissed group run b
AffectsReadings group rules.NoGradient (Some run) b = IsWellFormed group → IsNotReached group run
AffectsReadings group rules.GradientShort (Some run) b = IsWellFormed group → IsNotReached group run
AffectsReadings group rules.NoSpeed (Some run) b = IsWellFormed group → IsNotReached group run
AffectsReadings group rules.SpeedShort (Some run) b = IsWellFormed group → IsNotReached group run
-- the other rules state nothing about readings
AffectsReadings group rule run b = ⊤

-- ---- the part of soundness that a rule requires at a location

-- if there is an authority among the packets, there is a profile of the kind
abbrev pub HasProfile : (TrackPacket → Option Reach) → List TrackPacket → Type 0
HasProfile reach packets =
    (i : ℕ) (a : TrackPacket) (limit : ℕ) → At packets i a → packet_limit a ≡ Some limit
    → (j : ℕ) × (p : TrackPacket) × At packets j p × IsTrue (is_some (reach p))

-- if p is a profile of the kind, it reaches the supervised location of each authority among the packets
abbrev pub IsLong : (TrackPacket → Option Reach) → List TrackPacket → TrackPacket → Type 0
IsLong reach packets p = (r : Reach) → reach p ≡ Some r
    → (i : ℕ) (a : TrackPacket) (limit : ℕ) → At packets i a → packet_limit a ≡ Some limit → Reaches r limit

-- If packet k of the balise at place b is a profile of the kind, the balise is not silent and the packet
-- holds, then the packet reaches the supervised location of each authority in the message of the group.
abbrev pub IsLongProfile : (TrackPacket → Option Reach) → Telegrams → Run → ℕ → ℕ → Type 0
IsLongProfile reach group run b k = (t : Telegram) (p : TrackPacket) → At group b t → At t.packets k p
    → IsFalse (is_silent run t.header.dup (length group) b) → IsTrue (holds run p)
    → IsLong reach (group_message run group) p

-- u, at place j, is the first telegram with a counter below 254
abbrev pub IsFirstCounted : Telegrams → ℕ → Telegram → Type 0
IsFirstCounted group j u = At group j u × (u.header.counter < 254)
    × ((i : ℕ) (v : Telegram) → i < j → At group i v → 254 ≤ v.header.counter)

-- the part of an aspect, at a running direction, a balise and a packet; `group` is aspect a
abbrev pub AspectPart : Aspects → ℕ → Telegrams → Rule → Option Run → Option ℕ → Option ℕ → Type 0
-- placed
AspectPart aspects a group rules.PositionWrong None (Some b) None =
    (t : Telegram) → At group b t → t.header.position ≡ b
-- counted
AspectPart aspects a group rules.TotalWrong None (Some b) None =
    (t : Telegram) → At group b t → t.header.total + 1 ≡ length group
-- alike
AspectPart aspects a group rules.HeaderDiffers None (Some b) None =
    (t first : Telegram) → At group b t → At (first_aspect aspects) 0 first → AreAlike t first
-- inside
AspectPart aspects a group rules.MarkOutside None (Some b) None =
    (t : Telegram) → At group b t → t.header.dup ≢ dups.Single → IsSome (partner_place group b)
-- answered
AspectPart aspects a group rules.MarkUnanswered None (Some b) None =
    (p : ℕ) → partner_place group b ≡ Some p → partner_place group p ≡ Some b
-- agrees
AspectPart aspects a group rules.CounterUnfit None (Some b) None =
    (t : Telegram) → At group b t → t.header.counter ≢ 254
-- equal
AspectPart aspects a group rules.CountersDiffer None (Some b) None =
    (j : ℕ) (t u : Telegram) → At group b t → t.header.counter < 254 → IsFirstCounted group j u
    → t.header.counter ≡ u.header.counter
-- equal pairs
AspectPart aspects a group rules.DuplicatesDiffer (Some run) (Some b) None =
    (t u : Telegram) → At group b t → At group (b + 1) u
    → t.header.dup ≡ dups.Next → u.header.dup ≡ dups.Previous → held_packets run t ≡ held_packets run u
-- modelled
AspectPart aspects a group rules.NotModelled None (Some b) (Some k) =
    (t : Telegram) (p : TrackPacket) → At group b t → At t.packets k p → IsTrue (is_modelled p)
-- one and each, of gradients and of speeds, in the message with nothing missed
AspectPart aspects a group rules.NoGradient (Some run) None None =
    HasProfile gradient_reach (group_message run group)
AspectPart aspects a group rules.GradientShort (Some run) (Some b) (Some k) =
    IsLongProfile gradient_reach group run b k
AspectPart aspects a group rules.NoSpeed (Some run) None None =
    HasProfile speed_reach (group_message run group)
AspectPart aspects a group rules.SpeedShort (Some run) (Some b) (Some k) =
    IsLongProfile speed_reach group run b k
-- marks
AspectPart aspects a group rules.MarksDiffer None (Some b) None =
    (t first : Telegram) → At group b t → At (first_aspect aspects) b first → t.header.dup ≡ first.header.dup
-- distinct, of this aspect and the aspects before it
AspectPart aspects a group rules.NotToldApart None (Some b) None =
    (c q : ℕ) (t u : Telegram) → c < a → At group b t → Shows aspects c q u
    → t.header.counter < 254 → t.header.counter ≢ u.header.counter
AspectPart aspects a group rule run b k = ⊤

-- The part of a controlled group as a whole. `new` states that no earlier group has its identity.
abbrev pub GroupPart : Type 0 → Aspects → Rule → Option Run → Option ℕ → Option ℕ → Type 0
-- distinct, of the line
GroupPart new aspects rules.IdentityUsed None None None = new
-- fixed or switched
GroupPart new aspects rules.NotToldApart None (Some b) None =
    1 < length aspects → IsFixed aspects b ⊎ IsSwitched aspects b
GroupPart new aspects rule run b k = ⊤

-- the part of the packets of a message 3, at a running direction and a packet
abbrev pub PacketsPart : List TrackPacket → Rule → Option Run → Option ℕ → Option ℕ → Type 0
PacketsPart packets rules.NotModelled None None (Some k) =
    (p : TrackPacket) → At packets k p → IsTrue (is_modelled p)
PacketsPart packets rules.NoGradient (Some run) None None =
    HasProfile gradient_reach (filter (holds run) packets)
PacketsPart packets rules.GradientShort (Some run) None (Some k) =
    (p : TrackPacket) → At packets k p → IsTrue (holds run p) → IsLong gradient_reach (filter
    (holds run) packets) p
PacketsPart packets rules.NoSpeed (Some run) None None = HasProfile speed_reach (filter (holds run) packets)
PacketsPart packets rules.SpeedShort (Some run) None (Some k) =
    (p : TrackPacket) → At packets k p → IsTrue (holds run p) → IsLong speed_reach (filter
    (holds run) packets) p
PacketsPart packets rule run b k = ⊤

abbrev pub MessagePart : Message → Rule → Option Run → Option ℕ → Option ℕ → Type 0
MessagePart (messages.Movement m) rule run b k = PacketsPart m.packets rule run b k
MessagePart (messages.Position m) rule run b k = ⊤

-- ---- what a finding means

-- a finding names aspect a by its index if the group has two or more aspects, and otherwise names none
abbrev pub NamesAspect : Aspects → ℕ → Option ℕ → Type 0
NamesAspect aspects a named = (1 < length aspects → named ≡ Some a) × (length aspects ≤ 1 → named ≡ None)

-- A finding about a controlled group: the part of the group as a whole does not hold; or the part of the
-- named aspect does not hold, and its readings have the stated consequence.
abbrev pub ViolatesGroup : Type 0 → Aspects → Rule → Option ℕ → Option Run → Option ℕ → Option ℕ → Type 0
ViolatesGroup new aspects rule aspect run b k =
    ((aspect ≡ None) × (GroupPart new aspects rule run b k → ⊥))
    ⊎ ((a : ℕ) × (group : Telegrams) × At aspects a group × NamesAspect aspects a aspect
    × (AspectPart aspects a group rule run b k → ⊥) × AffectsReadings group rule run b)

-- a finding about a message: its part does not hold
abbrev pub ViolatesMessage : Message → Rule → Option Run → Option ℕ → Option ℕ → Type 0
ViolatesMessage m rule run b k = MessagePart m rule run b k → ⊥

-- no earlier group has the identity of the group at place g
abbrev pub IsNew : List Aspects → ℕ → Aspects → Type 0
IsNew groups g aspects = (i : ℕ) (h : Aspects) → i < g → At groups i h
    → group_identity h ≢ group_identity aspects

abbrev pub ViolatesSite : List Aspects → List Message → Finding → Site → Type 0
ViolatesSite groups messages f (sites.Group g) =
    (aspects : Aspects) × At groups g aspects
    × ViolatesGroup (IsNew groups g aspects) aspects f.rule f.aspect f.dir f.balise f.packet
ViolatesSite groups messages f (sites.Message i) =
    (m : Message) × At messages i m × (f.aspect ≡ None) × ViolatesMessage m f.rule f.dir f.balise f.packet

-- what a finding means at its site
abbrev pub Violates : List Aspects → List Message → Finding → Type 0
Violates groups messages f = ViolatesSite groups messages f f.site

-- ---- what no finding means

abbrev pub HasSiteParts : List Aspects → List Message → Finding → Site → Type 0
HasSiteParts groups messages f (sites.Group g) = (aspects : Aspects) → At groups g aspects
    → (f.aspect ≡ None → GroupPart (IsNew groups g aspects) aspects f.rule f.dir f.balise f.packet)
    × ((a : ℕ) (group : Telegrams) → At aspects a group → NamesAspect aspects a f.aspect
    → AspectPart aspects a group f.rule f.dir f.balise f.packet)
HasSiteParts groups messages f (sites.Message i) = (m : Message) → At messages i m → f.aspect ≡ None
    → MessagePart m f.rule f.dir f.balise f.packet

-- the parts that the rule of f requires hold at its site, aspect, running direction, balise and packet
abbrev pub HasParts : List Aspects → List Message → Finding → Type 0
HasParts groups messages f = HasSiteParts groups messages f f.site
