-- Packets reach each supervised location by the edition if and only if they do by the definition of a sound reading.
use Rattle.std.proofs.Common.{◌≡◌, ◌↔◌, ℕ, ◌+◌, ◌*◌, ◌≤◌, ◌==◌, Bool, true, false, List, [], ◌∷◌, ◌++◌, sum_by, Option, Some, None, is_some, IsTrue, refl, sym, ap, subst, ◌∙◌, arith}
use Rattle.std.proofs.Math.Nat.{mul-add, mul-le-mul_left}
use Rattle.std.proofs.lemmas.List.Sums.{sum_by-cons}
use Rattle.etcs_bits.specs.declared.variables.direction.Dir.{Dir}
use Rattle.etcs_profile.specs.declared.track.TrackPacket.{TrackPacket}
use Rattle.etcs_profile.specs.declared.track.TrackPacket.TheVariants as kinds
use Rattle.etcs_profile.specs.declared.track.gradient.GradientElement.{GradientElement}
use Rattle.etcs_profile.specs.declared.track.speed.SpeedElement.{SpeedElement}
use Rattle.etcs_profile.specs.declared.reach.Reach.{Reach}
use Rattle.etcs_profile.specs.declared.reach.Reach.TheVariants.{Ends}
use Rattle.etcs_profile.specs.declared.section.Section.{Section}
use Rattle.etcs_profile.specs.Authority.{AuthorityValue, authority_limit, beyond_end}
use Rattle.etcs_profile.specs.Elements.{elements_reach}
use Rattle.etcs_profile.specs.Profile.{Profile}
use Rattle.etcs_profile.specs.Reach.{add_distance, scaled_reach, scale_factor, way_to_mark}
use Rattle.etcs_profile.proofs.WayLemmas.{way_first, way_further, way_is}
use Rattle.etcs_group.specs.Places.{At}
use Rattle.etcs_check.specs.Profiles.{packet_limit, gradient_reach, speed_reach, Reaches, AreReached as AreReachedByProfiles}
use Rattle.etcs_check.specs.Violation.{HasProfile, IsLong}
use Rattle.etcs_edition.specs.Sound.{supervised_location, IsGiven, ReachesEach, F10_GradientsAreGiven, F11_GradientsReach, F12_SpeedsAreGiven, F13_SpeedsReach, AreReached}

-- ---- one profile and one location

-- the way to the first end mark is at most that to x
abbrev IsFirst : {X : Type 0} → (X → ℕ) → (X → Bool) → List X → List X → X → Type 0
IsFirst distance is_end xs before x =
    (way : ℕ) × (way_to_mark distance is_end xs ≡ Some way) × (way ≤ sum_by distance before + distance x)

first_step : {X : Type 0} (distance : X → ℕ) (is_end : X → Bool) (y : X) (before after : List X) (x : X) (b : Bool)
    → is_end y ≡ b → IsFirst distance is_end (before ++ x ∷ after) before x
    → IsFirst distance is_end (y ∷ (before ++ x ∷ after)) (y ∷ before) x
first_step distance is_end y before after x true on rest =
    (distance y, way_first distance is_end y (before ++ x ∷ after) on, omega (arith, sum_by-cons distance y before))
first_step distance is_end y before after x false off rest = (
  distance y + rest.0,
  way_further distance is_end y (before ++ x ∷ after) off ∙ ap (add_distance (distance y)) rest.1,
  omega (arith, rest.2, sum_by-cons distance y before),
)

first_is : {X : Type 0} (distance : X → ℕ) (is_end : X → Bool) (before after : List X) (x : X) → is_end x ≡ true
    → IsFirst distance is_end (before ++ x ∷ after) before x
first_is distance is_end [] after x on = (distance x, way_first distance is_end x after on, omega arith)
first_is distance is_end (y ∷ before) after x on =
    first_step distance is_end y before after x (is_end y) refl (first_is distance is_end before after x on)

-- each end mark of the profile is at the location or beyond it
abbrev AreBeyond : {X : Type 0} → (X → ℕ) → (X → Bool) → Profile X → ℕ → Type 0
AreBeyond {X} distance is_end p limit =
    (before after : List X) (x : X) → p.first ∷ p.further ≡ before ++ x ∷ after → IsTrue (is_end x)
    → limit ≤ scale_factor p.scale * (sum_by distance before + distance x)

beyond : {X : Type 0} (distance : X → ℕ) (is_end : X → Bool) (p : Profile X) (limit : ℕ)
    → Reaches (elements_reach distance is_end p) limit → AreBeyond distance is_end p limit
beyond distance is_end p limit reaches before after x are on =
    let w = first_is distance is_end before after x on in
    let same : elements_reach distance is_end p ≡ Ends (scale_factor p.scale * w.0) =
    ap (scaled_reach p.scale) (ap (way_to_mark distance is_end) are ∙ w.1) in
    let far : limit ≤ scale_factor p.scale * w.0 = subst (λ (r : Reach). Reaches r limit) same reaches in
    omega (arith, far, mul-le-mul_left (scale_factor p.scale) w.2)

by_way : {X : Type 0} (distance : X → ℕ) (is_end : X → Bool) (p : Profile X) (limit : ℕ) (o : Option ℕ)
    → way_to_mark distance is_end (p.first ∷ p.further) ≡ o → AreBeyond distance is_end p limit
    → Reaches (scaled_reach p.scale o) limit
by_way distance is_end p limit None is are = tt
by_way distance is_end p limit (Some way) is are =
    let w = way_is distance is_end (p.first ∷ p.further) way is in
    subst (λ (n : ℕ). limit ≤ scale_factor p.scale * n) (sym w.sum) (are w.before w.after w.first w.are w.mark)

reached : {X : Type 0} (distance : X → ℕ) (is_end : X → Bool) (p : Profile X) (limit : ℕ)
    → AreBeyond distance is_end p limit → Reaches (elements_reach distance is_end p) limit
reached distance is_end p limit are =
    by_way distance is_end p limit (way_to_mark distance is_end (p.first ∷ p.further)) refl are

-- ---- a profile and each authority

location_same : (a : AuthorityValue) → supervised_location a ≡ authority_limit a
location_same a =
    let way = sum_by (λ (s : Section). s.length) a.terms.sections + a.terms.l_endsection in
    mul-add (scale_factor a.scale) way (beyond_end a.terms.danger_point a.terms.overlap)

-- only an authority has a supervised location
located : (a : TrackPacket) (limit : ℕ) → packet_limit a ≡ Some limit
    → (v : AuthorityValue) × (a ≡ kinds.Authority v) × (supervised_location v ≡ limit)
located (kinds.Authority v) limit is = let same : authority_limit v ≡ limit = cc in (v, refl, location_same v ∙ same)
located p limit is = absurd cc

long : {X : Type 0} (distance : X → ℕ) (is_end : X → Bool) (packets : List TrackPacket) (p : Profile X)
    → ReachesEach distance is_end packets p ↔ ((r : Reach) → Some (elements_reach distance is_end p) ≡ Some r
    → (i : ℕ) (a : TrackPacket) (limit : ℕ) → At packets i a → packet_limit a ≡ Some limit → Reaches r limit)
long distance is_end packets p = (
  λ h r is i a limit at has.
      let v = located a limit has in
      let at_v : At packets i (kinds.Authority v.0) = subst (λ (q : TrackPacket). At packets i q) v.1 at in
      let reaches = reached distance is_end p (supervised_location v.0) (λ before after x are on. h before after x are on i v.0 at_v) in
      let same : elements_reach distance is_end p ≡ r = cc (is) in
      subst (λ (s : Reach). Reaches s limit) same
      (subst (λ (n : ℕ). Reaches (elements_reach distance is_end p) n) v.2 reaches),
  λ h before after x are on i a at.
      beyond distance is_end p (supervised_location a)
      (h (elements_reach distance is_end p) refl i (kinds.Authority a) (supervised_location a) at (ap Some (sym (location_same a)))) before after x are on,
)

pub f11 : (packets : List TrackPacket) (p : TrackPacket) → F11_GradientsReach packets p ↔ IsLong gradient_reach packets p
f11 packets (kinds.Gradient p) = long (λ (e : GradientElement). e.distance) (λ e. e.gradient == 255) packets p.1
f11 packets p = (λ h r is. absurd cc, λ h. tt)

pub f13 : (packets : List TrackPacket) (p : TrackPacket) → F13_SpeedsReach packets p ↔ IsLong speed_reach packets p
f13 packets (kinds.Speed p) = long (λ (e : SpeedElement). e.distance) (λ e. e.speed == 127) packets p.1
f13 packets p = (λ h r is. absurd cc, λ h. tt)

-- ---- a profile of each kind

gradient_is : (p : TrackPacket) → IsTrue (is_some (gradient_reach p))
    → (g : Dir × Profile GradientElement) × (p ≡ kinds.Gradient g)
gradient_is (kinds.Gradient g) is = (g, refl)
gradient_is p is = absurd cc

speed_is : (p : TrackPacket) → IsTrue (is_some (speed_reach p)) → (s : Dir × Profile SpeedElement) × (p ≡ kinds.Speed s)
speed_is (kinds.Speed s) is = (s, refl)
speed_is p is = absurd cc

given : {P : Type 0} (kind : P → TrackPacket) (reach : TrackPacket → Option Reach) (packets : List TrackPacket)
    → ((p : P) → IsTrue (is_some (reach (kind p))))
    → ((q : TrackPacket) → IsTrue (is_some (reach q)) → (p : P) × (q ≡ kind p))
    → IsGiven kind packets ↔ HasProfile reach packets
given kind reach packets has of = (
  λ h i a limit at is.
      let v = located a limit is in
      let g = h i v.0 (subst (λ (q : TrackPacket). At packets i q) v.1 at) in
      (g.0, kind g.1, g.2, has g.1),
  λ h i a at.
      let q = h i (kinds.Authority a) (authority_limit a) at refl in
      let p = of q.1 q.3 in
      (q.0, p.0, subst (λ (one : TrackPacket). At packets q.0 one) p.1 q.2),
)

pub f10 : (packets : List TrackPacket) → F10_GradientsAreGiven packets ↔ HasProfile gradient_reach packets
f10 packets = given kinds.Gradient gradient_reach packets (λ p. refl) gradient_is

pub f12 : (packets : List TrackPacket) → F12_SpeedsAreGiven packets ↔ HasProfile speed_reach packets
f12 packets = given kinds.Speed speed_reach packets (λ p. refl) speed_is

-- ---- all packets

pub reached_agree : (packets : List TrackPacket) → AreReached packets ↔ AreReachedByProfiles packets
reached_agree packets = (
  λ h i a limit at is. (
    record {
      one = (f10 packets).0 h.0 i a limit at is;
      each = λ j p r there has. (f11 packets p).0 (h.2 j p there).0 r has i a limit at is;
    },
    record {
      one = (f12 packets).0 h.1 i a limit at is;
      each = λ j p r there has. (f13 packets p).0 (h.2 j p there).1 r has i a limit at is;
    },
  ),
  λ h. (
    (f10 packets).1 (λ i a limit at is. (h i a limit at is).0.one),
    (f12 packets).1 (λ i a limit at is. (h i a limit at is).1.one),
    λ j p there. (
      (f11 packets p).1 (λ r has i a limit at is. (h i a limit at is).0.each j p r there has),
      (f13 packets p).1 (λ r has i a limit at is. (h i a limit at is).1.each j p r there has),
    ),
  ),
)
