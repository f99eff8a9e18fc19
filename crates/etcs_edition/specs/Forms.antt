-- The JSON form of a telegram and of a radio message, which `decode` writes and `encode` reads. A key is the
-- standard's name of a variable in small letters, with its number as the value (SUBSET-026, 7.5.1). This
-- project's are the keys of V_LOA, T_LOA, NC_CDDIFF or NC_DIFF, of lists, of parts and of `user_bits`.
use Rattle.std.specs.Prelude.{ℕ, ◌+◌, Bool, codes, List, [], ◌∷◌, ◌++◌, length, drop, Option, Some, None}
use Rattle.serde_json.specs.Data.{Data, array, string}
use Rattle.etcs_bits.specs.declared.variables.direction.Dir.{Dir}
use Rattle.etcs_bits.specs.declared.variables.identity.Identity.{Identity}
use Rattle.etcs_profile.specs.declared.track.linking.Link.{Link}
use Rattle.etcs_profile.specs.declared.track.gradient.GradientElement.{GradientElement}
use Rattle.etcs_profile.specs.declared.track.speed.Difference.{Difference}
use Rattle.etcs_profile.specs.declared.track.speed.SpeedElement.{SpeedElement}
use Rattle.etcs_profile.specs.declared.track.transition.LevelOrder.{LevelOrder}
use Rattle.etcs_profile.specs.declared.section.Section.{Section}
use Rattle.etcs_profile.specs.declared.section.SectionTimer.{SectionTimer}
use Rattle.etcs_profile.specs.declared.end_timer.EndTimer.{EndTimer}
use Rattle.etcs_profile.specs.declared.danger_point.DangerPoint.{DangerPoint}
use Rattle.etcs_profile.specs.declared.overlap.Overlap.{Overlap}
use Rattle.etcs_profile.specs.declared.track.TrackPacket.{TrackPacket}
use Rattle.etcs_profile.specs.declared.track.TrackPacket.TheVariants as packets
use Rattle.etcs_profile.specs.Authority.{AuthorityValue}
use Rattle.etcs_profile.specs.Profile.{Profile}
use Rattle.etcs_profile.specs.Terms.{TermsValue}
use Rattle.etcs_profile.specs.Transition.{Orders}
use Rattle.etcs_radio.specs.declared.message.Message.{Message}
use Rattle.etcs_radio.specs.declared.message.Message.TheVariants as messages
use Rattle.etcs_radio.specs.declared.report.Report.{Report}
use Rattle.etcs_radio.specs.declared.train_packet.TrainPacket.{TrainPacket}
use Rattle.etcs_radio.specs.declared.train_packet.TrainPacket.TheVariants as train_packets
use Rattle.etcs_schema.specs.BodyText.{body_text}
use Rattle.etcs_schema.specs.Codec.{encoded_items, number_data, optional}
use Rattle.etcs_schema.specs.Entries.{Entry, entries_object}
use Rattle.etcs_telegram.specs.Record.{Telegram}
use Rattle.etcs_edition.specs.Wire.{Field, bit}
use Rattle.etcs_edition.specs.Variables.{scale_field, dir_field, train3_field, level_fields, identity_fields}
use Rattle.etcs_edition.specs.TrackPackets.{section_timer_fields, end_timer_fields, danger_point_fields, overlap_fields, terms_fields, gradient_element_fields, difference_fields, speed_element_fields}
use Rattle.etcs_edition.specs.Telegram.{header_fields, user_bits}
use Rattle.etcs_edition.specs.TrainPackets.{integrity_fields, situation_fields}

-- ---- members

-- a number
abbrev pub number : List ℕ → ℕ → Entry
number name n = (name, Some (number_data n))

-- the numbers of fields, each at the next key; without a field the key is absent
abbrev pub numbers : List (List ℕ) → List Field → List Entry
numbers [] fields = []
numbers (name ∷ names) [] = (name, None) ∷ numbers names []
numbers (name ∷ names) (f ∷ fields) = number name f.number ∷ numbers names fields

-- a part; without it the key is absent
abbrev pub part : {X : Type 0} → List ℕ → (X → Data) → Option X → Entry
part name form x = (name, optional form x)

-- a list
abbrev pub items : {X : Type 0} → List ℕ → (X → Data) → List X → Entry
items name form xs = (name, Some (array (encoded_items form xs)))

-- ---- the parts of packets

abbrev pub link_form : Link → Data
link_form l = entries_object (
    number (codes "d_link") l.distance
    ∷ part (codes "nid_c") number_data l.country
    ∷ number (codes "nid_bg") l.group
    ∷ number (codes "q_linkorientation") (bit l.nominal).number
    ∷ number (codes "q_linkreaction") l.reaction
    ∷ number (codes "q_locacc") l.accuracy ∷ [])

abbrev pub section_timer_form : SectionTimer → Data
section_timer_form t =
    entries_object (numbers (codes "t_sectiontimer" ∷ codes "d_sectiontimerstoploc" ∷ []) (section_timer_fields t))

abbrev pub section_form : Section → Data
section_form s = entries_object (
    number (codes "l_section") s.length ∷ part (codes "section_timer") section_timer_form s.timer ∷ [])

abbrev pub end_timer_form : EndTimer → Data
end_timer_form t =
    entries_object (numbers (codes "t_endtimer" ∷ codes "d_endtimerstartloc" ∷ []) (end_timer_fields t))

abbrev pub danger_point_form : DangerPoint → Data
danger_point_form d = entries_object (numbers (codes "d_dp" ∷ codes "v_releasedp" ∷ []) (danger_point_fields d))

abbrev pub overlap_form : Overlap → Data
overlap_form o = entries_object (
    numbers (codes "d_startol" ∷ codes "t_ol" ∷ codes "d_ol" ∷ codes "v_releaseol" ∷ []) (overlap_fields o))

abbrev pub gradient_element_form : GradientElement → Data
gradient_element_form e =
    entries_object (numbers (codes "d_gradient" ∷ codes "q_gdir" ∷ codes "g_a" ∷ []) (gradient_element_fields e))

abbrev pub difference_form : Difference → Data
difference_form d =
    entries_object (numbers (codes "q_diff" ∷ codes "nc" ∷ codes "v_diff" ∷ []) (difference_fields d))

abbrev pub speed_element_form : SpeedElement → Data
speed_element_form e = entries_object (
    numbers (codes "d_static" ∷ codes "v_static" ∷ codes "q_front" ∷ []) (speed_element_fields e)
    ++ items (codes "differences") difference_form e.differences ∷ [])

abbrev pub level_order_form : LevelOrder → Data
level_order_form o = entries_object (
    numbers (codes "m_leveltr" ∷ codes "nid_ntc" ∷ []) (level_fields o.level)
    ++ number (codes "l_ackleveltr") o.acknowledge ∷ [])

-- ---- packets to trains

abbrev pub packet_form : ℕ → Dir → List Entry → Data
packet_form n dir members =
    entries_object (number (codes "nid_packet") n ∷ number (codes "q_dir") (dir_field dir).number ∷ members)

abbrev pub profile_members : {X : Type 0} → List ℕ → (X → Data) → Profile X → List Entry
profile_members name form p =
    number (codes "q_scale") (scale_field p.scale).number ∷ items name form (p.first ∷ p.further) ∷ []

abbrev pub terms_members : TermsValue → List Entry
terms_members t =
    numbers (codes "end_speed" ∷ codes "end_timeout" ∷ []) (terms_fields t)
    ++ items (codes "sections") section_form t.sections
    ∷ number (codes "l_endsection") t.l_endsection
    ∷ part (codes "section_timer") section_timer_form t.section_timer
    ∷ part (codes "end_timer") end_timer_form t.end_timer
    ∷ part (codes "danger_point") danger_point_form t.danger_point
    ∷ part (codes "overlap") overlap_form t.overlap ∷ []

abbrev pub authority_form : AuthorityValue → Option ℕ → Data
authority_form a (Some main) = packet_form 12 a.dir (
    number (codes "q_scale") (scale_field a.scale).number
    ∷ number (codes "v_main") main ∷ terms_members a.terms)
authority_form a None =
    packet_form 15 a.dir (number (codes "q_scale") (scale_field a.scale).number ∷ terms_members a.terms)

abbrev pub orders_members : Orders → List Entry
orders_members o =
    number (codes "q_scale") (scale_field o.scale).number
    ∷ number (codes "d_leveltr") o.d_leveltr
    ∷ items (codes "transitions") level_order_form (o.first ∷ o.further) ∷ []

-- L_PACKET, and the bits of a body in hexadecimal digits, with zeros up to a whole byte
abbrev pub body_members : ℕ → List Bool → List Entry
body_members head body =
    number (codes "l_packet") (head + length body) ∷ (codes "body", Some (string (body_text body))) ∷ []

abbrev pub track_packet_form : TrackPacket → Data
track_packet_form (packets.Cover p) =
    entries_object (number (codes "nid_packet") 0 ∷ number (codes "nid_vbcmk") p.marker ∷ [])
track_packet_form (packets.Linking p) = packet_form 5 p.0 (profile_members (codes "links") link_form p.1)
track_packet_form (packets.Authority a) = authority_form a a.main
track_packet_form (packets.Gradient p) =
    packet_form 21 p.0 (profile_members (codes "elements") gradient_element_form p.1)
track_packet_form (packets.Speed p) =
    packet_form 27 p.0 (profile_members (codes "elements") speed_element_form p.1)
track_packet_form (packets.Transition p) = packet_form 41 p.0 (orders_members p.1)
track_packet_form (packets.Raw p) = packet_form p.number p.dir (body_members 23 p.body)

-- ---- a telegram

abbrev pub telegram_form : Telegram → Data
telegram_form t = entries_object (
    number (codes "user_bits") (user_bits t.size)
    ∷ numbers (codes "m_version" ∷ []) (drop 1 (header_fields t.header))
    ++ numbers (codes "n_pig" ∷ codes "n_total" ∷ codes "m_dup" ∷ codes "m_mcount" ∷ codes "nid_c"
    ∷ codes "nid_bg" ∷ codes "q_link" ∷ []) (drop 3 (header_fields t.header))
    ++ items (codes "packets") track_packet_form t.packets ∷ [])

-- ---- packets from trains

abbrev pub situation_members : Report → List Entry
situation_members r =
    numbers (codes "d_lrbg" ∷ codes "q_dirlrbg" ∷ codes "q_dlrbg" ∷ codes "l_doubtover" ∷ codes "l_doubtunder"
    ∷ []) (situation_fields r)
    ++ numbers (codes "q_length" ∷ codes "l_trainint" ∷ []) (integrity_fields r.length)
    ++ number (codes "v_train") r.speed
    ∷ number (codes "q_dirtrain") (train3_field r.running).number
    ∷ number (codes "m_mode") r.mode
    ∷ numbers (codes "m_level" ∷ codes "nid_ntc" ∷ []) (level_fields r.level)

abbrev pub report_object : ℕ → Report → List Entry → Data
report_object n r previous = entries_object (
    number (codes "nid_packet") n
    ∷ number (codes "q_scale") (scale_field r.scale).number
    ∷ numbers (codes "nid_c" ∷ codes "nid_bg" ∷ []) (identity_fields r.lrbg)
    ++ previous ++ situation_members r)

abbrev pub report_form : Report → Option Identity → Data
report_form r None = report_object 0 r []
report_form r (Some previous) =
    report_object 1 r (numbers (codes "prv_nid_c" ∷ codes "prv_nid_bg" ∷ []) (identity_fields previous))

abbrev pub train_packet_form : TrainPacket → Data
train_packet_form (train_packets.Report r) = report_form r r.previous
train_packet_form (train_packets.Raw p) =
    entries_object (number (codes "nid_packet") p.number ∷ body_members 21 p.body)

-- ---- a radio message

abbrev pub message_form : Message → Data
message_form (messages.Movement m) = entries_object (
    number (codes "nid_message") 3
    ∷ number (codes "t_train") m.time
    ∷ number (codes "m_ack") (bit m.ack).number
    ∷ numbers (codes "nid_c" ∷ codes "nid_bg" ∷ []) (identity_fields m.lrbg)
    ++ items (codes "packets") track_packet_form m.packets ∷ [])
message_form (messages.Position m) = entries_object (
    number (codes "nid_message") 136
    ∷ number (codes "t_train") m.time
    ∷ number (codes "nid_engine") m.engine
    ∷ items (codes "packets") train_packet_form m.packets ∷ [])
