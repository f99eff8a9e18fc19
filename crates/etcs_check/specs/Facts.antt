-- The facts against a line: for each rule one test, at a running direction, a balise and a packet (this
-- project's rules, after SUBSET-026, 3.16.2). No definition here refers to what a train reads.
use Rattle.std.specs.Prelude.{ℕ, ◌+◌, ◌&&◌, ◌||◌, nat_lt, Bool, false, not, List, [], length, slice_get, take, filter, Option, Some, None, IsTrue}
use Rattle.std.specs.Option.{option_map_or}
use Rattle.etcs_profile.specs.Track.{holds}
use Rattle.etcs_profile.specs.declared.run.Run.{Run}
use Rattle.etcs_profile.specs.declared.track.TrackPacket.{TrackPacket}
use Rattle.etcs_profile.specs.declared.reach.Reach.{Reach}
use Rattle.etcs_radio.specs.declared.message.Message.{Message}
use Rattle.etcs_radio.specs.declared.message.Message.TheVariants as messages
use Rattle.etcs_group.specs.Group.{Telegrams, Aspects}
use Rattle.etcs_group.specs.Packets.{is_silent, group_message}
use Rattle.etcs_group.specs.Places.{element_passes}
use Rattle.etcs_check.specs.Aspects.{is_used, is_ambiguous}
use Rattle.etcs_check.specs.Findings.{balise_fact, pair_differs, is_unmodelled, lacks, is_said_and_short}
use Rattle.etcs_check.specs.Profiles.{gradient_reach, speed_reach}
use Rattle.etcs_check.specs.Soundness.{first_aspect}
use Rattle.etcs_check.specs.declared.finding.Finding.{Finding}
use Rattle.etcs_check.specs.declared.finding.Rule.{Rule}
use Rattle.etcs_check.specs.declared.finding.Rule.TheVariants as rules
use Rattle.etcs_check.specs.declared.finding.Site.{Site}
use Rattle.etcs_check.specs.declared.finding.Site.TheVariants as sites

-- ---- packets, and the packets of the message

-- The senders of packets: the balises of an aspect, each by its place, or a message, without a place.
-- `packets` are the packets of a sender, `silent` is whether it is silent in a running direction, and `said`
-- are the packets of the whole message in that direction.
pub record Speech : Type 0 where
  pub packets : Option ℕ → List TrackPacket
  pub silent : Run → Option ℕ → Bool
  pub said : Run → List TrackPacket

abbrev pub aspect_packets : Telegrams → Option ℕ → List TrackPacket
aspect_packets group (Some b) = option_map_or (λ t. t.packets) (slice_get group b) []
aspect_packets group None = []

abbrev pub is_silent_balise : Telegrams → Run → Option ℕ → Bool
is_silent_balise group run (Some b) =
    element_passes group b (λ t. is_silent run t.header.dup (length group) b)
is_silent_balise group run None = false

abbrev pub aspect_speech : Telegrams → Speech
aspect_speech group = record {
  packets = aspect_packets group;
  silent = is_silent_balise group;
  said = λ run. group_message run group;
}

abbrev pub packets_alone : List TrackPacket → Option ℕ → List TrackPacket
packets_alone packets (Some b) = []
packets_alone packets None = packets

abbrev pub message_speech : List TrackPacket → Speech
message_speech packets = record {
  packets = packets_alone packets;
  silent = λ run b. false;
  said = λ run. filter (holds run) packets;
}

-- F11 and F13 of a packet of this sender
abbrev pub is_short_profile : (TrackPacket → Option Reach) → Speech → Run → Option ℕ → TrackPacket → Bool
is_short_profile reach speech run b p = is_said_and_short reach (speech.said run) run (speech.silent run b) p

abbrev pub packet_fact : Speech → Rule → Option Run → Option ℕ → Option ℕ → Bool
packet_fact speech rules.NotModelled None b (Some k) = element_passes (speech.packets b) k is_unmodelled
packet_fact speech rules.NoGradient (Some run) None None = lacks gradient_reach (speech.said run)
packet_fact speech rules.GradientShort (Some run) b (Some k) =
    element_passes (speech.packets b) k (is_short_profile gradient_reach speech run b)
packet_fact speech rules.NoSpeed (Some run) None None = lacks speed_reach (speech.said run)
packet_fact speech rules.SpeedShort (Some run) b (Some k) =
    element_passes (speech.packets b) k (is_short_profile speed_reach speech run b)
packet_fact speech rule run b k = false

-- ---- aspects, groups, messages and lines

-- a fact about an aspect, which is compared with `first`, aspect 0, and with the aspects before it
abbrev pub aspect_fact : Telegrams → Aspects → Telegrams → Rule → Option Run → Option ℕ → Option ℕ → Bool
aspect_fact first before group rules.DuplicatesDiffer (Some run) (Some b) None =
    element_passes group b (λ t. pair_differs run t (slice_get group (b + 1)))
aspect_fact first before group rule None (Some b) None =
    element_passes group b (balise_fact first before group rule b)
aspect_fact first before group rule run b k = packet_fact (aspect_speech group) rule run b k

-- a fact about a group as a whole; `used` says whether an earlier group has its identity
abbrev pub whole_fact : Bool → Aspects → Rule → Option Run → Option ℕ → Option ℕ → Bool
whole_fact used aspects rules.IdentityUsed None None None = used
whole_fact used aspects rules.NotToldApart None (Some b) None =
    element_passes (first_aspect aspects) b (is_ambiguous aspects b)
whole_fact used aspects rule run b k = false

-- a fact about aspect a of a group
abbrev pub fact_of_aspect : Aspects → ℕ → Rule → Option Run → Option ℕ → Option ℕ → Bool
fact_of_aspect aspects a rule run b k =
    element_passes aspects a (λ group. aspect_fact (first_aspect aspects) (take a aspects) group rule run b k)

-- A fact about a group: if no aspect is named, about the whole group or its only aspect, otherwise about the
-- named aspect. A single aspect is never named.
abbrev pub group_fact : Bool → Aspects → Rule → Option ℕ → Option Run → Option ℕ → Option ℕ → Bool
group_fact used aspects rule None run b k = whole_fact used aspects rule run b k
    || (not (nat_lt 1 (length aspects)) && fact_of_aspect aspects 0 rule run b k)
group_fact used aspects rule (Some a) run b k =
    nat_lt 1 (length aspects) && fact_of_aspect aspects a rule run b k

-- a fact about a message 3 is a fact about its packets; there are no facts about a message 136
abbrev pub message_fact : Message → Rule → Option ℕ → Option Run → Option ℕ → Option ℕ → Bool
message_fact (messages.Movement m) rule None run b k = packet_fact (message_speech m.packets) rule run b k
message_fact m rule aspect run b k = false

abbrev pub site_fact : List Aspects → List Message → Site → Finding → Bool
site_fact groups messages (sites.Group g) f = element_passes groups g
    (λ aspects. group_fact (is_used (take g groups) aspects) aspects f.rule f.aspect f.dir f.balise f.packet)
site_fact groups messages (sites.Message i) f =
    element_passes messages i (λ m. message_fact m f.rule f.aspect f.dir f.balise f.packet)

-- the finding states a fact against the line, as a test
abbrev pub is_fact : List Aspects → List Message → Finding → Bool
is_fact groups messages f = site_fact groups messages f.site f

-- the finding states a fact against the line
abbrev pub StatesFact : List Aspects → List Message → Finding → Type 0
StatesFact groups messages f = IsTrue (is_fact groups messages f)
