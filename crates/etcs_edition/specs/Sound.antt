-- What sound groups and messages rest on besides the readings of trains: for which trains a packet is, which identity
-- a group has, and how far profiles describe the track. F10 to F13 are this project's rules, after SUBSET-026, 3.7, 3.8
-- and 3.11: gradients and speeds must be known up to the supervised location of each movement authority.
use Rattle.std.specs.Prelude.{◌≡◌, ℕ, ◌+◌, ◌*◌, ◌≤◌, ◌==◌, not, Bool, true, List, ◌∷◌, ◌++◌, sum_by, Option, option_map, option_and_then, slice_get, IsTrue, ⊤}
use Rattle.etcs_bits.specs.declared.variables.identity.Identity.{Identity}
use Rattle.etcs_profile.specs.declared.run.Run.{Run}
use Rattle.etcs_profile.specs.declared.run.Run.TheVariants as runs
use Rattle.etcs_profile.specs.declared.track.TrackPacket.{TrackPacket}
use Rattle.etcs_profile.specs.declared.track.TrackPacket.TheVariants as kinds
use Rattle.etcs_profile.specs.declared.track.gradient.GradientElement.{GradientElement}
use Rattle.etcs_profile.specs.declared.track.speed.SpeedElement.{SpeedElement}
use Rattle.etcs_profile.specs.Authority.{AuthorityValue, beyond_end}
use Rattle.etcs_profile.specs.Profile.{Profile}
use Rattle.etcs_profile.specs.Reach.{scale_factor}
use Rattle.etcs_group.specs.Places.{At}
use Rattle.etcs_group.specs.Group.{Aspects}
use Rattle.etcs_edition.specs.Wire.{Field}

-- ---- running directions and identities

-- whether a packet with these fields is for trains that run in the direction, by its second field, Q_DIR (7.5.1):
-- 0 is for trains in reverse, 1 for the others, 2 for all. Packet 0 has no Q_DIR, and is for all.
abbrev pub is_for : Run → List Field → Bool
is_for runs.Nominal (nid_packet ∷ q_dir ∷ l_packet ∷ body) = not (q_dir.number == 0)
is_for runs.Reverse (nid_packet ∷ q_dir ∷ l_packet ∷ body) = not (q_dir.number == 1)
is_for run fields = true

-- the identity of a group: that of balise 0 of its aspect 0
abbrev pub group_identity : Aspects → Option Identity
group_identity aspects =
    option_map (λ t. t.header.identity) (option_and_then (λ group. slice_get group 0) (slice_get aspects 0))

-- ---- how far profiles describe the track

-- the distance to the supervised location of an authority, in decimetres, from the start of its first section (3.8)
abbrev pub supervised_location : AuthorityValue → ℕ
supervised_location a = scale_factor a.scale
    * (sum_by (λ s. s.length) a.terms.sections + a.terms.l_endsection
    + beyond_end a.terms.danger_point a.terms.overlap)

-- if there is an authority among the packets, there is a profile of the kind
abbrev pub IsGiven : {P : Type 0} → (P → TrackPacket) → List TrackPacket → Type 0
IsGiven {P} kind packets = (i : ℕ) (a : AuthorityValue) → At packets i (kinds.Authority a)
    → (j : ℕ) × (p : P) × At packets j (kind p)

-- Each end mark of the profile is at the supervised location of each authority among the packets, or beyond it. The
-- distance of an element counts from the element before. A profile without an end mark reaches every location.
abbrev pub ReachesEach : {X : Type 0} → (X → ℕ) → (X → Bool) → List TrackPacket → Profile X → Type 0
ReachesEach {X} distance is_end packets profile = (before after : List X) (x : X)
    → profile.first ∷ profile.further ≡ before ++ x ∷ after → IsTrue (is_end x)
    → (i : ℕ) (a : AuthorityValue) → At packets i (kinds.Authority a)
    → supervised_location a ≤ scale_factor profile.scale * (sum_by distance before + distance x)

-- F10: if there is an authority among the packets, there is a gradient profile (3.7, 3.8 and 3.11).
abbrev pub F10_GradientsAreGiven : List TrackPacket → Type 0
F10_GradientsAreGiven packets = IsGiven kinds.Gradient packets

-- F11: the packet, if it is a gradient profile, reaches each supervised location; G_A 255 is the end mark (3.7, 3.8
-- and 3.11).
abbrev pub F11_GradientsReach : List TrackPacket → TrackPacket → Type 0
F11_GradientsReach packets (kinds.Gradient p) =
    ReachesEach (λ (e : GradientElement). e.distance) (λ e. e.gradient == 255) packets p.1
F11_GradientsReach packets p = ⊤

-- F12: if there is an authority among the packets, there is a speed profile (3.7, 3.8 and 3.11).
abbrev pub F12_SpeedsAreGiven : List TrackPacket → Type 0
F12_SpeedsAreGiven packets = IsGiven kinds.Speed packets

-- F13: the packet, if it is a speed profile, reaches each supervised location; V_STATIC 127 is the end mark (3.7, 3.8
-- and 3.11).
abbrev pub F13_SpeedsReach : List TrackPacket → TrackPacket → Type 0
F13_SpeedsReach packets (kinds.Speed p) =
    ReachesEach (λ (e : SpeedElement). e.distance) (λ e. e.speed == 127) packets p.1
F13_SpeedsReach packets p = ⊤

-- F10 to F13 hold of the packets: profiles reach each supervised location.
abbrev pub AreReached : List TrackPacket → Type 0
AreReached packets = F10_GradientsAreGiven packets × F12_SpeedsAreGiven packets
    × ((i : ℕ) (p : TrackPacket) → At packets i p → F11_GradientsReach packets p × F13_SpeedsReach packets p)
