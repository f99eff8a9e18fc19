-- The forms of movement authorities, packets 12 and 15, and of their parts (SUBSET-026, 3.8 and 7.4.2).
-- Keys are the standard's names of variables in small letters. `end_speed` and `end_timeout`, for V_LOA
-- and T_LOA, and the keys of `sections` and of the parts are this project's. An optional part has no
-- qualifier in the form: its key is present or absent. Keys are in the order in which they are read.
use Rattle.std.specs.Prelude.{◌≡◌, ◌⊎◌, true, codes, refl}
use Rattle.etcs_schema.specs.Prelude.{inl, inr, option_rows, pair_rows, ranged}
use Rattle.etcs_profile.specs.Authority.{AuthorityValue, WithMain, WithoutMain, again, authority_variable, authority_parts, make_authority, v_main, with_main as with_main_layout, without_main as without_main_layout}
use Rattle.etcs_profile.specs.Parts.{d_dp, d_endtimerstartloc, d_ol, d_sectiontimerstoploc, d_startol, danger_point as danger_point_layout, danger_point_struct, end_timer as end_timer_layout, end_timer_struct, l_section, overlap as overlap_layout, overlap_struct, section as section_layout, section_struct, section_timer as section_timer_layout, section_timer_struct, t_endtimer, t_ol, t_sectiontimer, v_releasedp, v_releaseol}
use Rattle.etcs_profile.specs.Terms.{conditions_struct, l_endsection, t_loa, terms as terms_layout, v_loa}
use Rattle.etcs_schema.specs.Choices.{Choice, numbered_members, chosen, either, last}
use Rattle.etcs_schema.specs.Head.{Packet, headed, scaled}
use Rattle.etcs_schema.specs.Codec.{ObjectMembers, MemberCodec, Codec, closed, key, optional_key, list, object, renamed, struct, ◌then◌}
use Rattle.etcs_schema.specs.Variables.{is_allowed, number}

-- ---- parts

-- how long a section is valid, and where its timer stops
unfoldable pub section_timer : ObjectMembers section_timer_layout.rows
section_timer =
    closed (struct section_timer_struct
    (key (codes "t_sectiontimer") (number t_sectiontimer.fields)
    then key (codes "d_sectiontimerstoploc") (number d_sectiontimerstoploc.fields))) refl

-- a section
unfoldable pub section : ObjectMembers section_layout.rows
unfolding section_timer
section =
    closed (struct section_struct
    (key (codes "l_section") (number l_section.fields)
    then optional_key (codes "section_timer") (object section_timer))) refl

-- how long the end section is granted, and where its timer starts
unfoldable pub end_timer : ObjectMembers end_timer_layout.rows
end_timer =
    closed (struct end_timer_struct
    (key (codes "t_endtimer") (number t_endtimer.fields)
    then key (codes "d_endtimerstartloc") (number d_endtimerstartloc.fields))) refl

-- the danger point, and its release speed
unfoldable pub danger_point : ObjectMembers danger_point_layout.rows
danger_point =
    closed (struct danger_point_struct
    (key (codes "d_dp") (number d_dp.fields) then key (codes "v_releasedp") (number v_releasedp.fields))) refl

-- the overlap, and its release speed
unfoldable pub overlap : ObjectMembers overlap_layout.rows
overlap =
    closed (struct overlap_struct
    (key (codes "d_startol") (number d_startol.fields)
    then key (codes "t_ol") (number t_ol.fields) then key (codes "d_ol") (number d_ol.fields)
    then key (codes "v_releaseol") (number v_releaseol.fields))) refl

-- ---- the members of both packets

-- the optional members after the end section: its two timers, the danger point, the overlap
unfoldable pub end_parts : MemberCodec
    (pair_rows (option_rows section_timer_layout.rows)
    (pair_rows (option_rows end_timer_layout.rows)
    (pair_rows (option_rows danger_point_layout.rows) (option_rows overlap_layout.rows))))
end_parts =
    optional_key (codes "section_timer") (object section_timer)
    then optional_key (codes "end_timer") (object end_timer)
    then optional_key (codes "danger_point") (object danger_point)
    then optional_key (codes "overlap") (object overlap)

-- the conditions: V_LOA, T_LOA, the sections, L_ENDSECTION, and the members after the end section
unfoldable pub terms : MemberCodec terms_layout.rows
terms =
    struct conditions_struct
    (key (codes "end_speed") (number v_loa.fields) then key (codes "end_timeout") (number t_loa.fields)
    then key (codes "sections") (list (object section))
    then key (codes "l_endsection") (number l_endsection.fields) then end_parts)

-- ---- the packets

-- packet 12: V_MAIN, and then the conditions
unfoldable pub with_main : Packet 12 with_main_layout.rows
unfolding terms end_parts section section_timer end_timer danger_point overlap
with_main = numbered_members (headed (scaled (key (codes "v_main") (number v_main.fields) then terms))) refl

-- packet 15
unfoldable pub without_main : Packet 15 without_main_layout.rows
unfolding terms end_parts section section_timer end_timer danger_point overlap
without_main = numbered_members (headed (scaled terms)) refl

-- packet 12 or 15
abbrev pub either_authority : Choice (codes "nid_packet") authority_variable (WithMain ⊎ WithoutMain)
either_authority = either with_main (last without_main) refl

pub either_nid : (v : WithMain ⊎ WithoutMain)
    → is_allowed (ranged 8 254 256) (either_authority.number v) ≡ true
either_nid (inl p) = refl
either_nid (inr p) = refl

-- a movement authority; NID_PACKET is read before the other keys
unfoldable pub authority : Codec AuthorityValue
authority = renamed make_authority authority_parts again
    (chosen (codes "nid_packet") (is_allowed (ranged 8 254 256)) either_authority (λ v _. either_nid v))
