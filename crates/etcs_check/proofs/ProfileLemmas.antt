-- The facts about profiles against packets that are reached.
use Rattle.std.proofs.Common.{◌≡◌, ℕ, Bool, true, false, not, ◌&&◌, List, Option, Some, None, is_some, refl, ap}
use Rattle.std.specs.List.{list_any}
use Rattle.std.specs.Option.{option_map_or}
use Rattle.std.proofs.lemmas.Bool.{ltb-false, le-ltb, both_ways, cases_Bool, and_cases, and_left, and_right, not-false, not_from_true, false_from_ne_true}
use mathlib.Core.Logic.{inl, inr}
use Rattle.etcs_profile.specs.Track.{holds, track_number}
use Rattle.etcs_profile.specs.declared.run.Run.{Run}
use Rattle.etcs_profile.specs.declared.track.TrackPacket.{TrackPacket}
use Rattle.etcs_profile.specs.declared.reach.Reach.{Reach}
use Rattle.etcs_profile.specs.declared.reach.Reach.TheVariants.{Ends, Open}
use Rattle.etcs_telegram.specs.Record.{Telegram}
use Rattle.etcs_group.specs.Places.{At}
use Rattle.etcs_group.specs.Packets.{group_message}
use Rattle.etcs_group.proofs.PlaceLemmas.{at_list_any, list_any-at, list_any-none}
use Rattle.etcs_profile.specs.declared.track.TrackPacket.TheVariants as packets
use Rattle.etcs_check.specs.Profiles.{gradient_reach, speed_reach, packet_limit, Reaches, AreReached, HasProfiles}
use Rattle.etcs_check.specs.Violation.{HasProfile, IsLong, IsLongProfile}
use Rattle.etcs_check.specs.Findings.{lacks, falls_short, exceeds, is_short, is_said_and_short}
use Rattle.etcs_check.proofs.FactLemmas.{each_of}
use Rattle.etcs_check.proofs.MemberLemmas.{said-site, site-said}

is_some-says : {X : Type 0} (o : Option X) → is_some o ≡ true → (x : X) × (o ≡ Some x)
is_some-says None h = cc
is_some-says (Some x) h = (x, refl)

-- ---- one reach and one supervised location

not_past : (r : Reach) (limit : ℕ) → falls_short r limit ≡ false → Reaches r limit
not_past (Ends n) limit h = ltb-false n limit h
not_past Open limit h = tt

reaches-not_past : (r : Reach) (limit : ℕ) → Reaches r limit → falls_short r limit ≡ false
reaches-not_past (Ends n) limit h = le-ltb n limit h
reaches-not_past Open limit h = refl

-- ---- a profile that is not short

abbrev pub ReachesAll : List TrackPacket → Reach → Type 0
ReachesAll packets r = (i : ℕ) (a : TrackPacket) (limit : ℕ) → At packets i a → packet_limit a ≡ Some limit → Reaches r limit

short-says : (reach : TrackPacket → Option Reach) (packets : List TrackPacket) (p : TrackPacket) → is_short reach packets p ≡ false → (r : Reach) → reach p ≡ Some r → ReachesAll packets r
short-says reach packets p h r has i a limit at is =
    let none : list_any (exceeds r) packets ≡ false = rw has at h in
    not_past r limit (false_from_ne_true _ (λ past. both_ways _ none (at_list_any (exceeds r) packets i a at (rw is past))))

short-from : (reach : TrackPacket → Option Reach) (packets : List TrackPacket) (p : TrackPacket) → ((r : Reach) → reach p ≡ Some r → ReachesAll packets r) → is_short reach packets p ≡ false
short-from reach packets p h = each_of (reach p) (λ o. option_map_or (λ r. list_any (exceeds r) packets) o false ≡ false) refl (λ r e. list_any-none (exceeds r) packets (λ i a at.
    each_of (packet_limit a) (λ o. option_map_or (falls_short r) o false ≡ false) refl (λ limit is. reaches-not_past r limit (h r e i a limit at is))))

-- ---- a list of packets

abbrev pub HaveProfiles : (TrackPacket → Option Reach) → List TrackPacket → Type 0
HaveProfiles reach packets = (i : ℕ) (a : TrackPacket) (limit : ℕ) → At packets i a → packet_limit a ≡ Some limit → HasProfiles reach packets limit

-- if none is lacking, there is one
pub one-from_lacks : (reach : TrackPacket → Option Reach) (packets : List TrackPacket) → lacks reach packets ≡ false → HasProfile reach packets
one-from_lacks reach packets there i a limit at is =
    let some = at_list_any (λ p. is_some (packet_limit p)) packets i a at (ap is_some is) in
    list_any-at (λ p. is_some (reach p)) packets (elim (and_cases (list_any (λ p. is_some (packet_limit p)) packets) (not (list_any (λ p. is_some (reach p)) packets)) there) [
      | inl none ↦ absurd (both_ways _ none some)
      | inr none ↦ not-false _ none
    ])

-- there is one, and each is long
pub profiles-from : (reach : TrackPacket → Option Reach) (packets : List TrackPacket) → HasProfile reach packets → ((j : ℕ) (p : TrackPacket) → At packets j p → IsLong reach packets p) → HaveProfiles reach packets
profiles-from reach packets one long i a limit at is = record { one = one i a limit at is; each = λ j p r at' has. long j p at' r has i a limit at is }

pub lacks-from_one : (reach : TrackPacket → Option Reach) (packets : List TrackPacket) → HasProfile reach packets → lacks reach packets ≡ false
lacks-from_one reach packets h = elim (cases_Bool (list_any (λ p. is_some (packet_limit p)) packets)) [
  | inr none ↦ and_left _ _ none
  | inl some ↦
      let r = list_any-at (λ p. is_some (packet_limit p)) packets some in
      let e = is_some-says (packet_limit r.1) r.3 in
      let p = h r.0 r.1 e.0 r.2 e.1 in
      and_right (list_any (λ p. is_some (packet_limit p)) packets) _ (not_from_true _ (at_list_any (λ p. is_some (reach p)) packets p.0 p.1 p.2 p.3))
]

-- the profiles of each kind, if the packets are reached
pub gradients_in : (packets : List TrackPacket) → AreReached packets → HaveProfiles gradient_reach packets
gradients_in packets reached i a limit at is = (reached i a limit at is).0

pub speeds_in : (packets : List TrackPacket) → AreReached packets → HaveProfiles speed_reach packets
speeds_in packets reached i a limit at is = (reached i a limit at is).1

-- there is a profile
pub profiles-one : (reach : TrackPacket → Option Reach) (packets : List TrackPacket) → HaveProfiles reach packets → HasProfile reach packets
profiles-one reach packets h i a limit at is = (h i a limit at is).one

-- each profile is long
pub profiles-long : (reach : TrackPacket → Option Reach) (packets : List TrackPacket) → HaveProfiles reach packets → (j : ℕ) (p : TrackPacket) → At packets j p → IsLong reach packets p
profiles-long reach packets h j p at r has i a limit at_a is = (h i a limit at_a is).each j p r at has

-- ---- a packet of the message

-- a packet of the message that is not short
not_short : {silent held short : Bool} → silent ≡ false → held ≡ true → (not silent && (held && short)) ≡ false → short ≡ false
not_short e f h = rw (e, f) at h

pub at-long : (reach : TrackPacket → Option Reach) (said : List TrackPacket) (run : Run) (silent : Bool) (p : TrackPacket) → is_said_and_short reach said run silent p ≡ false
    → silent ≡ false → holds run p ≡ true → IsLong reach said p
at-long reach said run silent p short speaks held = short-says reach said p (not_short speaks held short)

pub long-at : (reach : TrackPacket → Option Reach) (said : List TrackPacket) (run : Run) (silent : Bool) (p : TrackPacket) → (silent ≡ false → holds run p ≡ true → IsLong reach said p) → is_said_and_short reach said run silent p ≡ false
long-at reach said run silent p long = elim (cases_Bool silent) [
  | inl mute ↦ and_left _ _ (not_from_true _ mute)
  | inr speaks ↦ elim (cases_Bool (holds run p)) [
    | inr not_held ↦ and_right (not silent) _ (and_left _ _ not_held)
    | inl held ↦ and_right (not silent) _ (and_right (holds run p) _ (short-from reach said p (long speaks held)))
  ]
]

-- each profile in the message of a group is long
pub long-said : (reach : TrackPacket → Option Reach) (group : List Telegram) (run : Run) → HaveProfiles reach (group_message run group) → (b k : ℕ) → IsLongProfile reach group run b k
long-said reach group run h b k t p at at' speaks held =
    let s = site-said run group b t k p at at' speaks held in
    profiles-long reach (group_message run group) h s.0 p s.1

pub said-long : (reach : TrackPacket → Option Reach) (group : List Telegram) (run : Run) → ((b k : ℕ) → IsLongProfile reach group run b k) → (j : ℕ) (p : TrackPacket) → At (group_message run group) j p → IsLong reach (group_message run group) p
said-long reach group run long j p at =
    let s = said-site run group j p at in
    long s.0 s.2 s.1 p s.3 s.4 s.5 s.6

-- ---- packets by their numbers

pub gradient-21 : (p : TrackPacket) → is_some (gradient_reach p) ≡ true → track_number p ≡ 21
gradient-21 (packets.Gradient g) h = refl
gradient-21 p h = absurd (both_ways _ refl h)

pub speed-27 : (p : TrackPacket) → is_some (speed_reach p) ≡ true → track_number p ≡ 27
speed-27 (packets.Speed g) h = refl
speed-27 p h = absurd (both_ways _ refl h)
