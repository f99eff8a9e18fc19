-- The facts against one aspect of a balise group, and lists of findings (this project's rules, after
-- SUBSET-026, 3.16.2). A group that no lineside unit switches has one aspect. Facts depend only on the
-- telegrams of the aspect and of the aspects before it: no definition here refers to what a train reads. A
-- place is the index of a balise in the group, from 0.
use Rattle.std.specs.Prelude.{ℕ, ◌+◌, ◌==◌, ◌&&◌, nat_lt, Bool, true, false, not, if◌then◌else◌, List, [], ◌∷◌, ◌++◌, length, slice_get, Option, Some, None, is_some, flat_map}
use Rattle.std.specs.Bool.{beq}
use Rattle.std.specs.List.{list_any, enumerate_from}
use Rattle.std.specs.Option.{option_map_or}
use Rattle.etcs_bits.specs.declared.variables.duplicate.Dup.{Dup}
use Rattle.etcs_bits.specs.declared.variables.duplicate.Dup.TheVariants as dups
use Rattle.etcs_bits.specs.variables.Variables.{dup_number, version_number}
use Rattle.etcs_profile.specs.Track.{holds}
use Rattle.etcs_profile.specs.declared.run.Run.{Run}
use Rattle.etcs_profile.specs.declared.run.Run.TheVariants as runs
use Rattle.etcs_profile.specs.declared.track.TrackPacket.{TrackPacket}
use Rattle.etcs_profile.specs.declared.reach.Reach.{Reach}
use Rattle.etcs_profile.specs.declared.reach.Reach.TheVariants.{Ends, Open}
use Rattle.etcs_telegram.specs.Record.{Telegram}
use Rattle.etcs_group.specs.Group.{is_modelled, partner_place, Telegrams, Aspects}
use Rattle.etcs_check.specs.Duplicates.{same_identity, same_held}
use Rattle.etcs_check.specs.Profiles.{packet_limit}
use Rattle.etcs_check.specs.declared.finding.Finding.{Finding}
use Rattle.etcs_check.specs.declared.finding.Rule.{Rule}
use Rattle.etcs_check.specs.declared.finding.Rule.TheVariants as rules
use Rattle.etcs_check.specs.declared.finding.Spot.{Spot}

-- ---- the facts about one balise, each a test

-- F1: the position of the balise is not its place
abbrev pub is_misplaced : ℕ → Telegram → Bool
is_misplaced b t = not (t.header.position == b)

-- F2: its total and one is not the number of balises
abbrev pub is_miscounted : Telegrams → Telegram → Bool
is_miscounted group t = not ((t.header.total + 1) == length group)

-- F3: the telegram's version, identity or link flag is not that of the other one. It is no fact where
-- there is no other one.
abbrev pub header_differs : Option Telegram → Telegram → Bool
header_differs None t = false
header_differs (Some u) t =
    not ((version_number t.header.version == version_number u.header.version)
    && (same_identity t.header.identity u.header.identity && beq t.header.linked u.header.linked))

-- F4: a mark that names the next of the last of n balises, or the previous of the first
abbrev pub is_outside : ℕ → Dup → ℕ → Bool
is_outside n dups.Single b = false
is_outside n dups.Next b = (b + 1) == n
is_outside n dups.Previous b = b == 0

-- the number is absent or another one
abbrev pub is_other : Option ℕ → ℕ → Bool
is_other o n = not (option_map_or (λ m. m == n) o false)

-- F5: the balise has a partner, whose partner is another balise or none
abbrev pub is_unanswered : Telegrams → Option ℕ → ℕ → Bool
is_unanswered group partner b = option_map_or (λ p. is_other (partner_place group p) b) partner false

-- F6: its counter is 254
abbrev pub is_unfit : Telegram → Bool
is_unfit t = t.header.counter == 254

-- the first counter below 254
abbrev pub first_counter : Telegrams → Option ℕ
first_counter [] = None
first_counter (t ∷ ts) = if nat_lt t.header.counter 254 then Some t.header.counter else first_counter ts

-- F7: its counter is below 254, and is not the first one below 254
abbrev pub counter_differs : Telegrams → Telegram → Bool
counter_differs group t =
    nat_lt t.header.counter 254 && is_other (first_counter group) t.header.counter

-- F15: the telegram's mark is not that of the other one. It is no fact where there is no other one.
abbrev pub mark_differs : Option Telegram → Telegram → Bool
mark_differs None t = false
mark_differs (Some u) t = not (dup_number t.header.dup == dup_number u.header.dup)

-- the list has a telegram with this counter
abbrev pub has_counter : ℕ → Telegrams → Bool
has_counter n group = list_any (λ t. t.header.counter == n) group

-- F16: its counter is below 254, and stands in one of these aspects
abbrev pub is_counter_taken : Aspects → Telegram → Bool
is_counter_taken before t =
    nat_lt t.header.counter 254 && list_any (has_counter t.header.counter) before

-- Whether the telegram t, of balise b of an aspect, breaks a rule about single balises. It is compared
-- with its own aspect, with `first`, which is aspect 0, and with the aspects before its own.
abbrev pub balise_fact : Telegrams → Aspects → Telegrams → Rule → ℕ → Telegram → Bool
balise_fact first before group rules.PositionWrong b t = is_misplaced b t
balise_fact first before group rules.TotalWrong b t = is_miscounted group t
balise_fact first before group rules.HeaderDiffers b t = header_differs (slice_get first 0) t
balise_fact first before group rules.MarkOutside b t = is_outside (length group) t.header.dup b
balise_fact first before group rules.MarkUnanswered b t = is_unanswered group (partner_place group b) b
balise_fact first before group rules.CounterUnfit b t = is_unfit t
balise_fact first before group rules.CountersDiffer b t = counter_differs group t
balise_fact first before group rules.MarksDiffer b t = mark_differs (slice_get first b) t
balise_fact first before group rules.NotToldApart b t = is_counter_taken before t
balise_fact first before group r b t = false

-- ---- the facts about two balises, about packets and about the message

-- the first of two marks names the next balise, and the second the previous one
abbrev pub are_pair : Dup → Dup → Bool
are_pair dups.Next dups.Previous = true
are_pair m n = false

-- F8: a balise and the one after it are a pair, and their packets that hold differ
abbrev pub pair_differs : Run → Telegram → Option Telegram → Bool
pair_differs run t None = false
pair_differs run t (Some u) = are_pair t.header.dup u.header.dup && not (same_held run t u)

-- F9: the meaning of the packet is not modelled
abbrev pub is_unmodelled : TrackPacket → Bool
is_unmodelled p = not (is_modelled p)

-- F10 and F12: there is an authority among the packets, and no profile of the kind
abbrev pub lacks : (TrackPacket → Option Reach) → List TrackPacket → Bool
lacks reach packets =
    list_any (λ p. is_some (packet_limit p)) packets && not (list_any (λ p. is_some (reach p)) packets)

-- a supervised location lies past a reach
abbrev pub falls_short : Reach → ℕ → Bool
falls_short (Ends n) limit = nat_lt n limit
falls_short Open limit = false

-- a packet is an authority whose supervised location lies past a reach
abbrev pub exceeds : Reach → TrackPacket → Bool
exceeds r a = option_map_or (falls_short r) (packet_limit a) false

-- F11 and F13: the packet is a profile of the kind, and the supervised location of some authority
-- among the packets lies past its reach
abbrev pub is_short : (TrackPacket → Option Reach) → List TrackPacket → TrackPacket → Bool
is_short reach packets p = option_map_or (λ r. list_any (exceeds r) packets) (reach p) false

-- F11 and F13: the speaker is not silent, the packet holds, and it is a profile that ends before a supervised
-- location that is said
abbrev pub is_said_and_short : (TrackPacket → Option Reach) → List TrackPacket → Run → Bool → TrackPacket
    → Bool
is_said_and_short reach said run silent p = not silent && (holds run p && is_short reach said p)

-- ---- lists of findings

-- a finding of these parts
abbrev pub new_finding : Rule → Spot → Option Run → Option ℕ → Option ℕ → Finding
new_finding rule spot run b k =
    record { rule = rule; site = spot.site; aspect = spot.aspect; dir = run; balise = b; packet = k }

-- a list of the finding if the fact holds, otherwise empty
abbrev pub noted : Bool → Finding → List Finding
noted fact finding = if fact then finding ∷ [] else []

-- the findings of each item with its place, in order; the first item is at place b
abbrev pub numbered_findings : {X : Type 0} → (ℕ → X → List Finding) → ℕ → List X → List Finding
numbered_findings f b xs = flat_map (λ e. f e.0 e.1) (enumerate_from b xs)

-- the findings of each item with its place, in order, from place 0 on
abbrev pub for_each : {X : Type 0} → List X → (ℕ → X → List Finding) → List Finding
for_each xs f = numbered_findings f 0 xs

-- the findings of each running direction, nominal first
abbrev pub for_directions : (Run → List Finding) → List Finding
for_directions f = f runs.Nominal ++ f runs.Reverse

-- the rules in the order of their numbers
abbrev pub all_rules : List Rule
all_rules =
    rules.PositionWrong ∷ rules.TotalWrong ∷ rules.HeaderDiffers ∷ rules.MarkOutside ∷ rules.MarkUnanswered
    ∷ rules.CounterUnfit ∷ rules.CountersDiffer ∷ rules.DuplicatesDiffer ∷ rules.NotModelled
    ∷ rules.NoGradient ∷ rules.GradientShort ∷ rules.NoSpeed ∷ rules.SpeedShort ∷ rules.IdentityUsed
    ∷ rules.MarksDiffer ∷ rules.NotToldApart ∷ []
