-- The forms of packets from track to train, by their numbers (SUBSET-026, 7.4.2): first those of linking
-- and of the profiles of the track, packets 5, 21 and 27, then the choice among all packets. Each key is
-- named as the standard names its variable, in small letters. `links`, `elements` and `differences` are
-- this project's and name lists. `nc` is NC_CDDIFF or NC_DIFF. Keys are in the order in which they are
-- read.
use Rattle.std.specs.Prelude.{◌≡◌, ◌≤◌, ℕ, ◌+◌, Bool, true, List, Result, Ok, codes, nat_le, refl, length}
use Rattle.etcs_schema.specs.Prelude.{arith, le-leb, Data, Format, AreAllowed, alone, width, nid_bg, nid_c, ranged}
use Rattle.etcs_bits.specs.declared.variables.direction.Dir.{Dir}
use Rattle.etcs_profile.specs.Elements.{elements, profile_struct}
use Rattle.etcs_profile.specs.Track.{d_gradient, g_a, gradient_element as gradient_layout, gradient_struct, d_link, link as link_layout, link_struct, q_linkreaction, q_locacc, d_static, difference as difference_layout, difference_struct, nc_diff, q_diff, speed_element as speed_layout, speed_struct, v_diff, v_static, NumberedTrackPacket, again, track_parts, make_track_packet}
use Rattle.etcs_profile.specs.Packet.{rest}
use Rattle.etcs_profile.specs.Profile.{Profile}
use Rattle.etcs_profile.specs.declared.raw.RawPacket.{RawPacket}
use Rattle.etcs_profile.specs.declared.track.TrackPacket.{TrackPacket}
use Rattle.etcs_profile.specs.PacketNumbers.{nid_raw, nid_track}
use Rattle.etcs_profile.specs.Raw.{other_of, others as other_bits}
use Rattle.etcs_schema.specs.Choices.{numbered_members, Choice, HasNumber, begins_with, chosen, either, others}
use Rattle.etcs_schema.specs.Fault.{Fault, Range, here}
use Rattle.etcs_schema.specs.Head.{Packet, headed, scaled, nid_range}
use Rattle.etcs_schema.specs.Reading.{◌>>=◌, required_member}
use Rattle.etcs_schema.specs.Codec.{ObjectMembers, MemberCodec, decoded_pair, closed, first_and_others, key, optional_key, list, non_empty_list, object, only, struct, tested, ◌then◌, Codec, renamed}
use Rattle.etcs_schema.specs.Variables.{direction, flag, number, scale, is_allowed}
use Rattle.etcs_json.specs.Authority.{danger_point, end_parts, end_timer, overlap, section, section_timer, terms, with_main, without_main}
use Rattle.etcs_json.specs.Cover.{cover}
use Rattle.etcs_json.specs.Raw.{raw_packet}
use Rattle.etcs_json.specs.Transition.{level_order, transition}

-- a packet of elements that has no more bits than L_PACKET counts, with the 23 of NID_PACKET, Q_DIR, L_PACKET
abbrev pub is_short : {X : Type 0} → Format X → Dir × Profile X → Bool
is_short layout p = nat_le (23 + width ((elements layout).rows p.1)) 8191

pub profile_short : {X : Type 0} (layout : Format X) (p : Dir × Profile X)
    → AreAllowed ((rest (elements layout)).rows p) → is_short layout p ≡ true
unfolding alone
profile_short layout p allowed =
    le-leb (23 + width ((elements layout).rows p.1)) 8191 (omega (arith, allowed.1.0.0))

-- a packet with a list of elements at this key; it is refused if it is too long
abbrev pub profile : {X : Type 0} → List ℕ → (layout : Format X)
    → ObjectMembers layout.rows → MemberCodec (rest (elements layout)).rows
profile name layout element =
    tested (here Range) (is_short layout) (profile_short layout)
    (headed (struct profile_struct (scaled (key name (non_empty_list (object element))))))

-- what such a packet is read as
abbrev pub decoded_profile : {X : Type 0} → List ℕ → Format X
    → (Data → Result X Fault) → Data → Result (Dir × Profile X) Fault
decoded_profile name layout element d =
    decoded_pair (required_member direction.of (codes "q_dir"))
    (λ e. decoded_pair (required_member scale.of (codes "q_scale"))
    (required_member (first_and_others element 32) name) e >>= λ p. Ok (profile_struct.make p)) d
    >>= only (here Range) (is_short layout)

-- a balise group ahead; it has a country if and only if Q_NEWCOUNTRY is 1
unfoldable pub link : ObjectMembers link_layout.rows
link =
    closed (struct link_struct
    (key (codes "d_link") (number d_link.fields)
    then optional_key (codes "nid_c") (number nid_c.fields)
    then key (codes "nid_bg") (number nid_bg.fields)
    then key (codes "q_linkorientation") flag then key (codes "q_linkreaction") (number q_linkreaction.fields)
    then key (codes "q_locacc") (number q_locacc.fields))) refl

-- what packet 5 has after its number
unfoldable pub linking : Packet 5 (rest (elements link_layout)).rows
unfolding link
linking = numbered_members (profile (codes "links") link_layout link) refl

-- a gradient, and the place where it begins
unfoldable pub gradient_element : ObjectMembers gradient_layout.rows
gradient_element =
    closed (struct gradient_struct
    (key (codes "d_gradient") (number d_gradient.fields)
    then key (codes "q_gdir") flag then key (codes "g_a") (number g_a.fields))) refl

-- what packet 21 has after its number
unfoldable pub gradient : Packet 21 (rest (elements gradient_layout)).rows
unfolding gradient_element
gradient = numbered_members (profile (codes "elements") gradient_layout gradient_element) refl

-- another speed for some trains
unfoldable pub difference : ObjectMembers difference_layout.rows
difference =
    closed (struct difference_struct
    (key (codes "q_diff") (number q_diff.fields) then key (codes "nc") (number nc_diff.fields)
    then key (codes "v_diff") (number v_diff.fields))) refl

-- a speed, and the place where it begins
unfoldable pub speed_element : ObjectMembers speed_layout.rows
unfolding difference
speed_element =
    closed (struct speed_struct
    (key (codes "d_static") (number d_static.fields)
    then key (codes "v_static") (number v_static.fields) then key (codes "q_front") flag
    then key (codes "differences") (list (object difference)))) refl

-- what packet 27 has after its number
unfoldable pub speed_profile : Packet 27 (rest (elements speed_layout)).rows
unfolding speed_element difference
speed_profile = numbered_members (profile (codes "elements") speed_layout speed_element) refl

-- ---- the packet of a number

pub raw_has : (p : RawPacket) → HasNumber (codes "nid_packet") p.number ((object raw_packet).to p)
unfolding raw_packet
raw_has p = begins_with (codes "nid_packet") p.number raw_packet p _ refl

-- a packet whose layout is not known
abbrev pub raw : Choice (codes "nid_packet") nid_track RawPacket
raw =
    others nid_raw (λ p. p.number) other_bits.rows raw_packet refl
    (λ p. other_of p.number (length p.body) p.kept) raw_has

abbrev pub track_numbered : Choice (codes "nid_packet") nid_track NumberedTrackPacket
track_numbered =
    either cover (
    either linking (
    either with_main (
    either without_main (
    either gradient (
    either speed_profile (
    either transition
    raw refl) refl) refl) refl) refl) refl) refl

-- NID_PACKET is read first; 255, the end mark, is the number of no packet
abbrev pub track_packet : Codec TrackPacket
track_packet = renamed make_track_packet track_parts again
    (chosen (codes "nid_packet") (is_allowed (ranged 8 254 256)) track_numbered
    (λ v nid. nid_range (track_numbered.number v) nid.0 nid.1))

pub track_shallow : track_packet.back.0 ≤ 100
unfolding cover linking link with_main without_main terms end_parts section section_timer end_timer danger_point overlap gradient gradient_element speed_profile speed_element difference transition level_order raw_packet
track_shallow = omega arith
