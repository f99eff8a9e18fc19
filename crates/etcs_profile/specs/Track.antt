-- The packets from track to train (SUBSET-026, 7.4.2): the elements of packets 5, 21 and 27, whose body is
-- `elements`, and the choice among the packets whose layout is known and all others.
use Rattle.std.specs.Prelude.{ℕ, Bool, Option, refl, List, [], ◌∷◌, ◌≡◌, ◌==◌, ◌||◌, ◌⊎◌, not, if◌then◌else◌, true, false, Some, None}
use Rattle.std.specs.List.{list_any}
use Rattle.std.proofs.Common.{ap, sym, ◌∙◌, inl, inr}
use Rattle.std.proofs.lemmas.Bool.{ne_eqb, true≢false}
use Rattle.etcs_bits.specs.declared.variables.direction.Dir.{Dir}
use Rattle.etcs_bits.specs.layout.Format.{Format, number, ranges, flag, ◌then◌, if_there, struct, several, either, chosen, named}
use Rattle.etcs_bits.specs.layout.Struct.{Struct, two_ways}
use Rattle.etcs_bits.specs.variables.VariableFormats.{nid_c, nid_bg, q_scale}
use Rattle.etcs_bits.specs.layout.Rows.{Place, Row}
use Rattle.etcs_bits.specs.layout.Choice.{Choice}
use Rattle.etcs_bits.specs.layout.Growth.{GrowsAfter, HasItems}
use Rattle.etcs_profile.specs.declared.track.linking.Link.{Link}
use Rattle.etcs_profile.specs.declared.track.gradient.GradientElement.{GradientElement}
use Rattle.etcs_profile.specs.declared.track.speed.Difference.{Difference}
use Rattle.etcs_profile.specs.declared.track.speed.SpeedElement.{SpeedElement}
use Rattle.etcs_profile.specs.declared.raw.RawPacket.{RawPacket}
use Rattle.etcs_profile.specs.declared.run.Run.{Run}
use Rattle.etcs_profile.specs.declared.track.TheConstants.{KNOWN}
use Rattle.etcs_profile.specs.declared.track.TrackPacket.{TrackPacket}
use Rattle.etcs_profile.specs.declared.track.TrackPacket.TheVariants as packets
use Rattle.etcs_profile.specs.Profile.{Profile}
use Rattle.etcs_profile.specs.Packet.{rest, packet}
use Rattle.etcs_profile.specs.Elements.{elements}
use Rattle.etcs_profile.specs.Authority.{AuthorityValue, authority_value, WithMain, WithoutMain, with_main, without_main, of_packet_12, of_packet_15, parts_by_main, authority, authority_variable, v_main}
use Rattle.etcs_profile.specs.Transition.{Orders, level_orders}
use Rattle.etcs_profile.specs.Cover.{nid_vbcmk, cover_marker}
use Rattle.etcs_profile.specs.Raw.{others, raw_packet}
use Rattle.etcs_profile.specs.PacketNumbers.{is_kept_number, is_known, nid_track}
use Rattle.etcs_profile.specs.RunningDirection.{is_for_run}
use Rattle.etcs_profile.specs.Growth.{copy_grows, elements_grow, grows_by_number, grows_if, orders_grow, rest_grows, terms_grow}

-- ---- packet 5, linking (SUBSET-026, 3.4.4 and 7.4.2): a link is a balise group ahead, and where it is

-- D_LINK, 15 bits: the distance from the group of the link before, or from where the packet is measured
abbrev pub d_link : Format ℕ
d_link = number 15

-- Q_LINKORIENTATION, 1 bit: 0 reverse, 1 nominal
abbrev pub q_linkorientation : Format Bool
q_linkorientation = flag

-- Q_LINKREACTION, 2 bits: 0 train trip, 1 service brake, 2 no reaction; 3 is spare
abbrev pub q_linkreaction : Format ℕ
q_linkreaction = ranges 2 2 4

-- Q_LOCACC, 6 bits: how exactly the group's place is known, in metres
abbrev pub q_locacc : Format ℕ
q_locacc = number 6

-- a link, and its fields in order
abbrev pub link_struct : Struct (ℕ × (Option ℕ × (ℕ × (Bool × (ℕ × ℕ))))) Link
link_struct =
    two_ways
    (λ p. record {
      distance = p.0;
      country = p.1.0;
      group = p.1.1.0;
      nominal = p.1.1.1.0;
      reaction = p.1.1.1.1.0;
      accuracy = p.1.1.1.1.1;
    })
    (λ l. (l.distance, (l.country, (l.group, (l.nominal, (l.reaction, l.accuracy))))))
    (λ _. refl) (λ _. refl)

-- a link; Q_NEWCOUNTRY says whether NID_C follows
abbrev pub link : Format Link
link =
    struct link_struct
    (d_link then if_there nid_c then nid_bg then q_linkorientation then q_linkreaction then q_locacc)

-- ---- packet 21, gradients: how steep the track is, place by place

-- D_GRADIENT, 15 bits: the distance from the element before
abbrev pub d_gradient : Format ℕ
d_gradient = number 15

-- Q_GDIR, 1 bit: 0 is downhill, 1 is uphill
abbrev pub q_gdir : Format Bool
q_gdir = flag

-- G_A, 8 bits: how steep the track is, in metres of height per 1,000 metres; 255 is the end mark
abbrev pub g_a : Format ℕ
g_a = number 8

-- an element, and its fields in order
abbrev pub gradient_struct : Struct (ℕ × (Bool × ℕ)) GradientElement
gradient_struct =
    two_ways
    (λ p. record { distance = p.0; uphill = p.1.0; gradient = p.1.1 })
    (λ e. (e.distance, (e.uphill, e.gradient))) (λ _. refl) (λ _. refl)

-- an element
abbrev pub gradient_element : Format GradientElement
gradient_element = struct gradient_struct (d_gradient then q_gdir then g_a)

-- ---- packet 27, static speed profile: how fast trains may go, place by place

-- D_STATIC, 15 bits: the distance from the element before
abbrev pub d_static : Format ℕ
d_static = number 15

-- V_STATIC, 7 bits: the speed in steps of 5 km/h, 0 to 120; 127 is the end mark
abbrev pub v_static : Format ℕ
v_static = ranges 7 120 127

-- Q_FRONT, 1 bit: whether the train's length delays the end of this element. At 0 the speed holds
-- until the train's rear passes the end. At 1 it holds only until the train's front passes it.
abbrev pub q_front : Format Bool
q_front = flag

-- Q_DIFF, 2 bits: 0, 1 and 2 give the trains that a difference is for; 3 is spare
abbrev pub q_diff : Format ℕ
q_diff = ranges 2 2 4

-- NC_CDDIFF if Q_DIFF is 0, NC_DIFF if it is 1 or 2: the category of train, 4 bits either way
abbrev pub nc_diff : Format ℕ
nc_diff = number 4

-- V_DIFF, 7 bits: the speed in steps of 5 km/h, 0 to 120
abbrev pub v_diff : Format ℕ
v_diff = ranges 7 120 128

-- another speed, and its fields in order
abbrev pub difference_struct : Struct (ℕ × (ℕ × ℕ)) Difference
difference_struct =
    two_ways
    (λ p. record { kind = p.0; category = p.1.0; speed = p.1.1 })
    (λ d. (d.kind, (d.category, d.speed))) (λ _. refl) (λ _. refl)

-- another speed for some trains
abbrev pub difference : Format Difference
difference = struct difference_struct (q_diff then nc_diff then v_diff)

-- an element, and its fields in order
abbrev pub speed_struct : Struct (ℕ × (ℕ × (Bool × List Difference))) SpeedElement
speed_struct =
    two_ways
    (λ p. record { distance = p.0; speed = p.1.0; front = p.1.1.0; differences = p.1.1.1 })
    (λ e. (e.distance, (e.speed, (e.front, e.differences)))) (λ _. refl) (λ _. refl)

-- an element; N_ITER counts its differences
abbrev pub speed_element : Format SpeedElement
speed_element = struct speed_struct (d_static then v_static then q_front then several difference)

-- ---- all packets

-- NID_PACKET, and what follows it
abbrev pub NumberedTrackPacket : Type 0
NumberedTrackPacket =
    ℕ ⊎ ((Dir × Profile Link) ⊎ (WithMain ⊎ (WithoutMain ⊎ ((Dir × Profile GradientElement)
    ⊎ ((Dir × Profile SpeedElement) ⊎ ((Dir × Orders) ⊎ RawPacket))))))

abbrev pub track_numbered : Choice NumberedTrackPacket
track_numbered =
    either 0 nid_vbcmk (
    either 5 (rest (elements link)) (
    either 12 with_main (
    either 15 without_main (
    either 21 (rest (elements gradient_element)) (
    either 27 (rest (elements speed_element)) (
    either 41 (rest level_orders)
    others refl) refl) refl) refl) refl) refl) refl

-- ---- the packet of a number with what follows
-- Pinned by the law a_record_is_read_as_it_is_spelled.

abbrev pub make_track_packet : NumberedTrackPacket → TrackPacket
make_track_packet (inl marker) = packets.Cover (record { marker = marker })
make_track_packet (inr (inl p)) = packets.Linking p
make_track_packet (inr (inr (inl p))) = packets.Authority (of_packet_12 p)
make_track_packet (inr (inr (inr (inl p)))) = packets.Authority (of_packet_15 p)
make_track_packet (inr (inr (inr (inr (inl p))))) = packets.Gradient p
make_track_packet (inr (inr (inr (inr (inr (inl p)))))) = packets.Speed p
make_track_packet (inr (inr (inr (inr (inr (inr (inl p))))))) = packets.Transition p
make_track_packet (inr (inr (inr (inr (inr (inr (inr p))))))) = packets.Raw p

-- ---- the number of a packet with what follows

-- an authority's packet as one of them all
abbrev pub numbered_authority : WithMain ⊎ WithoutMain → NumberedTrackPacket
numbered_authority (inl p) = inr (inr (inl p))
numbered_authority (inr p) = inr (inr (inr (inl p)))

abbrev pub track_parts : TrackPacket → NumberedTrackPacket
track_parts (packets.Cover p) = inl p.marker
track_parts (packets.Linking p) = inr (inl p)
track_parts (packets.Authority p) = numbered_authority (parts_by_main p.main p)
track_parts (packets.Gradient p) = inr (inr (inr (inr (inl p))))
track_parts (packets.Speed p) = inr (inr (inr (inr (inr (inl p)))))
track_parts (packets.Transition p) = inr (inr (inr (inr (inr (inr (inl p))))))
track_parts (packets.Raw p) = inr (inr (inr (inr (inr (inr (inr p))))))

pub back : (n : NumberedTrackPacket) → track_parts (make_track_packet n) ≡ n
back (inr (inr (inr (inr (inr (inr (inr p))))))) = refl
back n = refl

pub authority_again : (main : Option ℕ) (a : AuthorityValue)
    → make_track_packet (numbered_authority (parts_by_main main a))
    ≡ packets.Authority (authority_value a.dir a.scale main a.terms)
authority_again (Some v) a = refl
authority_again None a = refl

pub again : (p : TrackPacket) → make_track_packet (track_parts p) ≡ p
again (packets.Authority p) = authority_again p.main p
again p = refl

-- ---- any number but the end mark's has a packet

-- whether a number is one of these, or what is said of any other number
among : ℕ → List ℕ → Bool → Bool
among n [] other = other
among n (k ∷ ks) other = if n == k then true else among n ks other

among_step : (here rest other next : Bool) → next ≡ (rest || other)
    → (if here then true else next) ≡ ((here || rest) || other)
among_step true rest other next is = refl
among_step false rest other next is = is

among_is : (n : ℕ) (ks : List ℕ) (other : Bool) → among n ks other ≡ (list_any (λ k. n == k) ks || other)
unfolding among
among_is n [] other = refl
among_is n (k ∷ ks) other =
    among_step (n == k) (list_any (λ k. n == k) ks) other (among n ks other) (among_is n ks other)

known_or_not : (known end : Bool) → (known ≡ true → end ≡ false) → not end ≡ (known || not (known || end))
known_or_not true end no_end = rw (no_end refl) refl
known_or_not false end no_end = refl

known_is_no_end : (n : ℕ) → is_known n ≡ true → (n == 255) ≡ false
known_is_no_end n known =
    ne_eqb n 255 (λ end. true≢false (sym known ∙ ap is_known end))

pub all_but_the_end : (n : ℕ) → nid_track.allows n ≡ track_numbered.allows n
unfolding among
all_but_the_end n =
    known_or_not (is_known n) (n == 255) (known_is_no_end n)
    ∙ sym (among_is n KNOWN (not (is_known n || (n == 255))))

-- a packet of a list
abbrev pub track_packet : Format TrackPacket
track_packet =
    named (chosen nid_track track_numbered all_but_the_end) make_track_packet track_parts back again

-- the rows of a packet by itself, which have the bits that it has in a list
abbrev pub own_rows : TrackPacket → List Row
own_rows (packets.Cover p) = cover_marker.rows p
own_rows (packets.Linking p) = (packet 5 (elements link)).rows p
own_rows (packets.Authority p) = authority.rows p
own_rows (packets.Gradient p) = (packet 21 (elements gradient_element)).rows p
own_rows (packets.Speed p) = (packet 27 (elements speed_element)).rows p
own_rows (packets.Transition p) = (packet 41 level_orders).rows p
own_rows (packets.Raw p) = raw_packet.rows p

-- ---- what users ask of a packet

-- NID_PACKET of a movement authority: packet 12 has V_MAIN, packet 15 has none
abbrev pub authority_number : Option ℕ → ℕ
authority_number (Some main) = 12
authority_number None = 15

-- NID_PACKET
abbrev pub track_number : TrackPacket → ℕ
track_number (packets.Cover p) = 0
track_number (packets.Linking p) = 5
track_number (packets.Authority p) = authority_number p.main
track_number (packets.Gradient p) = 21
track_number (packets.Speed p) = 27
track_number (packets.Transition p) = 41
track_number (packets.Raw p) = p.number

-- a packet whose layout is known
abbrev pub IsKnown : TrackPacket → Type 0
IsKnown (packets.Raw p) = ⊥
IsKnown p = Unit {0}

-- whether a packet is for trains that run in this direction; packet 0 is for all and has no Q_DIR
abbrev pub holds : Run → TrackPacket → Bool
holds run (packets.Cover p) = true
holds run (packets.Linking p) = is_for_run run p.0
holds run (packets.Authority p) = is_for_run run p.dir
holds run (packets.Gradient p) = is_for_run run p.0
holds run (packets.Speed p) = is_for_run run p.0
holds run (packets.Transition p) = is_for_run run p.0
holds run (packets.Raw p) = is_for_run run p.dir

-- ---- where reading may ask for memory

-- an element of packet 27 has differences
abbrev pub speed_grows : Place → Type 0
speed_grows = GrowsAfter d_static.fields (GrowsAfter v_static.fields (GrowsAfter q_front.fields HasItems))

-- the body of the packet of a number; packet 0 has no list
abbrev pub body_grows : ℕ → Place → Type 0
body_grows n =
    grows_if (n == 5) (elements_grow (λ _. ⊥) link) (
    grows_if (n == 12) (GrowsAfter q_scale.fields (GrowsAfter v_main.fields terms_grow)) (
    grows_if (n == 15) (GrowsAfter q_scale.fields terms_grow) (
    grows_if (n == 21) (elements_grow (λ _. ⊥) gradient_element) (
    grows_if (n == 27) (elements_grow speed_grows speed_element) (
    grows_if (n == 41) orders_grow (λ _. ⊥))))))

-- what follows the number of a packet whose layout is known
abbrev pub known_grows : ℕ → Place → Type 0
known_grows n = rest_grows (body_grows n)

-- a movement authority
abbrev pub authority_grows : Place → Type 0
authority_grows = grows_by_number authority_variable known_grows

-- a packet that is seen by a view, without a copy of its bits
abbrev pub view_grows : Place → Type 0
view_grows = grows_by_number nid_track known_grows

-- a packet of a list
abbrev pub track_grows : Place → Type 0
track_grows = grows_by_number nid_track (λ n. grows_if (is_kept_number n) copy_grows (known_grows n))
