-- The packets from track to train, each as its table of variables (SUBSET-026, 7.4.1 and 7.4.2). A line has
-- one variable, in the order of the table, with its bits; a part that the standard repeats has a table of its
-- own.
use Rattle.std.specs.Prelude.{ℕ, ◌+◌, List, [], ◌∷◌, ◌++◌, Option, Some, None}
use Rattle.etcs_bits.specs.declared.variables.direction.Dir.{Dir}
use Rattle.etcs_profile.specs.declared.track.linking.Link.{Link}
use Rattle.etcs_profile.specs.declared.track.gradient.GradientElement.{GradientElement}
use Rattle.etcs_profile.specs.declared.track.speed.Difference.{Difference}
use Rattle.etcs_profile.specs.declared.track.speed.SpeedElement.{SpeedElement}
use Rattle.etcs_profile.specs.declared.track.transition.LevelOrder.{LevelOrder}
use Rattle.etcs_profile.specs.declared.section.Section.{Section}
use Rattle.etcs_profile.specs.declared.section.SectionTimer.{SectionTimer}
use Rattle.etcs_profile.specs.declared.end_timer.EndTimer.{EndTimer}
use Rattle.etcs_profile.specs.declared.danger_point.DangerPoint.{DangerPoint}
use Rattle.etcs_profile.specs.declared.overlap.Overlap.{Overlap}
use Rattle.etcs_profile.specs.declared.track.TrackPacket.{TrackPacket}
use Rattle.etcs_profile.specs.declared.track.TrackPacket.TheVariants as packets
use Rattle.etcs_profile.specs.Profile.{Profile}
use Rattle.etcs_profile.specs.Terms.{TermsValue}
use Rattle.etcs_profile.specs.Authority.{AuthorityValue}
use Rattle.etcs_profile.specs.Transition.{Orders}
use Rattle.etcs_edition.specs.Wire.{Field, any_number, up_to, bit, bit_count, qualified, iterated, raw_fields}
use Rattle.etcs_edition.specs.Variables.{scale_field, dir_field, level_fields, release_speed_field, static_speed_field}

-- The head of a packet and its body (7.4.1). L_PACKET counts all bits of the packet.
abbrev pub packet_to_train : ℕ → Dir → List Field → List Field
packet_to_train n dir body =
    any_number 8 n  -- NID_PACKET
    ∷ dir_field dir  -- Q_DIR
    ∷ any_number 13 (23 + bit_count body) ∷ body  -- L_PACKET

-- The body of a packet with one or more elements.
abbrev pub profile_fields : {X : Type 0} → (X → List Field) → Profile X → List Field
profile_fields element p =
    scale_field p.scale  -- Q_SCALE
    ∷ element p.first
    ++ iterated element p.further  -- N_ITER

-- ---- packet 5, linking (3.4.4 and 7.4.2)

-- an element: the next balise group
abbrev pub link_fields : Link → List Field
link_fields l =
    any_number 15 l.distance  -- D_LINK
    ∷ qualified (λ c. any_number 10 c ∷ []) l.country  -- Q_NEWCOUNTRY, NID_C
    ++ any_number 14 l.group  -- NID_BG
    ∷ bit l.nominal  -- Q_LINKORIENTATION
    ∷ up_to 2 2 l.reaction  -- Q_LINKREACTION
    ∷ any_number 6 l.accuracy ∷ []  -- Q_LOCACC

-- ---- packets 12 and 15, movement authority (3.8 and 7.4.2)

-- the timer of a section
abbrev pub section_timer_fields : SectionTimer → List Field
section_timer_fields t =
    any_number 10 t.time  -- T_SECTIONTIMER
    ∷ any_number 15 t.stop ∷ []  -- D_SECTIONTIMERSTOPLOC

-- a section before the end section
abbrev pub section_fields : Section → List Field
section_fields s =
    any_number 15 s.length  -- L_SECTION
    ∷ qualified section_timer_fields s.timer  -- Q_SECTIONTIMER

-- the timer of the end section
abbrev pub end_timer_fields : EndTimer → List Field
end_timer_fields t =
    any_number 10 t.time  -- T_ENDTIMER
    ∷ any_number 15 t.start ∷ []  -- D_ENDTIMERSTARTLOC

-- the danger point
abbrev pub danger_point_fields : DangerPoint → List Field
danger_point_fields d =
    any_number 15 d.distance  -- D_DP
    ∷ release_speed_field d.release_speed ∷ []  -- V_RELEASEDP

-- the overlap
abbrev pub overlap_fields : Overlap → List Field
overlap_fields o =
    any_number 15 o.start  -- D_STARTOL
    ∷ any_number 10 o.time  -- T_OL
    ∷ any_number 15 o.length  -- D_OL
    ∷ release_speed_field o.release_speed ∷ []  -- V_RELEASEOL

-- what packets 12 and 15 share
abbrev pub terms_fields : TermsValue → List Field
terms_fields t =
    up_to 7 120 t.end_speed  -- V_LOA
    ∷ any_number 10 t.end_timeout  -- T_LOA
    ∷ iterated section_fields t.sections  -- N_ITER
    ++ any_number 15 t.l_endsection  -- L_ENDSECTION
    ∷ qualified section_timer_fields t.section_timer  -- Q_SECTIONTIMER
    ++ qualified end_timer_fields t.end_timer  -- Q_ENDTIMER
    ++ qualified danger_point_fields t.danger_point  -- Q_DANGERPOINT
    ++ qualified overlap_fields t.overlap  -- Q_OVERLAP

-- the packet: 12 with V_MAIN, 15 without
abbrev pub authority_fields : AuthorityValue → Option ℕ → List Field
authority_fields a (Some main) =
    packet_to_train 12 a.dir (
    scale_field a.scale  -- Q_SCALE
    ∷ up_to 7 120 main  -- V_MAIN
    ∷ terms_fields a.terms)
authority_fields a None =
    packet_to_train 15 a.dir (
    scale_field a.scale  -- Q_SCALE
    ∷ terms_fields a.terms)

-- ---- packet 21, gradient profile (3.11 and 7.4.2)

-- an element: a gradient up to the next element
abbrev pub gradient_element_fields : GradientElement → List Field
gradient_element_fields e =
    any_number 15 e.distance  -- D_GRADIENT
    ∷ bit e.uphill  -- Q_GDIR
    ∷ any_number 8 e.gradient ∷ []  -- G_A

-- ---- packet 27, static speed profile (3.11 and 7.4.2)

-- another speed for a category of trains
abbrev pub difference_fields : Difference → List Field
difference_fields d =
    up_to 2 2 d.kind  -- Q_DIFF
    ∷ any_number 4 d.category  -- NC_CDDIFF or NC_DIFF
    ∷ up_to 7 120 d.speed ∷ []  -- V_DIFF

-- an element: a speed up to the next element
abbrev pub speed_element_fields : SpeedElement → List Field
speed_element_fields e =
    any_number 15 e.distance  -- D_STATIC
    ∷ static_speed_field e.speed  -- V_STATIC
    ∷ bit e.front  -- Q_FRONT
    ∷ iterated difference_fields e.differences  -- N_ITER

-- ---- packet 41, level transition order (5.10 and 7.4.2)

-- an order: a level, and where the driver acknowledges it
abbrev pub level_order_fields : LevelOrder → List Field
level_order_fields o =
    level_fields o.level  -- M_LEVELTR, NID_NTC
    ++ any_number 15 o.acknowledge ∷ []  -- L_ACKLEVELTR

-- the body of the packet
abbrev pub orders_fields : Orders → List Field
orders_fields o =
    scale_field o.scale  -- Q_SCALE
    ∷ any_number 15 o.d_leveltr  -- D_LEVELTR
    ∷ level_order_fields o.first
    ++ iterated level_order_fields o.further  -- N_ITER

-- ---- each packet

-- Packet 0 has neither Q_DIR nor L_PACKET (3.15.9). A packet with another number is kept as bits.
abbrev pub track_packet_fields : TrackPacket → List Field
track_packet_fields (packets.Cover p) =
    any_number 8 0  -- NID_PACKET
    ∷ any_number 6 p.marker ∷ []  -- NID_VBCMK
track_packet_fields (packets.Linking p) = packet_to_train 5 p.0 (profile_fields link_fields p.1)
track_packet_fields (packets.Authority a) = authority_fields a a.main
track_packet_fields (packets.Gradient p) = packet_to_train 21 p.0 (profile_fields gradient_element_fields p.1)
track_packet_fields (packets.Speed p) = packet_to_train 27 p.0 (profile_fields speed_element_fields p.1)
track_packet_fields (packets.Transition p) = packet_to_train 41 p.0 (orders_fields p.1)
track_packet_fields (packets.Raw p) = packet_to_train p.number p.dir (raw_fields p.body)
