-- The forms that are read by the edition are those that the codecs read.
use Rattle.std.proofs.Common.{◌≡◌, ℕ, ◌+◌, ◌*◌, ◌<◌, ◌≤◌, List, [], ◌∷◌, ◌++◌, length, Option, Some, None, refl, sym, ap, append_assoc, arith}
use Rattle.std.specs.Prelude.{nat_le, codes}
use Rattle.std.specs.List.{AllByRecursion, flat_map}
use Rattle.std.proofs.lemmas.Bool.Decides.{nat_tests}
use Rattle.etcs_bits.specs.declared.variables.direction.Dir.{Dir}
use Rattle.etcs_bits.specs.declared.variables.level.Level.{Level}
use Rattle.etcs_bits.specs.declared.variables.level.Level.TheVariants as levels
use Rattle.etcs_bits.specs.declared.variables.scale.Scale.{Scale}
use Rattle.etcs_bits.specs.declared.variables.scale.Scale.TheVariants as scales
use Rattle.etcs_bits.specs.layout.Format.{Format}
use Rattle.etcs_bits.specs.layout.Rows.{Row, width}
use Rattle.etcs_bits.specs.variables.VariableFormats.{nid_c}
use Rattle.etcs_profile.specs.declared.section.Section.{Section}
use Rattle.etcs_profile.specs.declared.section.SectionTimer.{SectionTimer}
use Rattle.etcs_profile.specs.declared.end_timer.EndTimer.{EndTimer}
use Rattle.etcs_profile.specs.declared.danger_point.DangerPoint.{DangerPoint}
use Rattle.etcs_profile.specs.declared.overlap.Overlap.{Overlap}
use Rattle.etcs_profile.specs.declared.track.transition.LevelOrder.{LevelOrder}
use Rattle.etcs_profile.specs.Elements.{elements as elements_layout, profile_struct}
use Rattle.etcs_profile.specs.Parts.{danger_point_struct, end_timer_struct, overlap_struct, section_struct, section_timer_struct}
use Rattle.etcs_profile.specs.Terms.{TermsValue, conditions_struct}
use Rattle.etcs_profile.specs.Track.{difference_struct, gradient_struct, link_struct, speed_struct, link as link_layout, gradient_element as gradient_layout, speed_element as speed_layout}
use Rattle.etcs_profile.specs.Transition.{Orders, level_order_struct, orders_struct}
use Rattle.etcs_json.specs.Authority as authorities
use Rattle.etcs_json.specs.TrackPackets as tracks
use Rattle.etcs_json.specs.Transition as transitions
use Rattle.etcs_schema.specs.Codec.{MemberCodec, ObjectMembers, object}
use Rattle.etcs_schema.specs.Fault.{Range, here}
use Rattle.etcs_schema.specs.Head.{headed}
use Rattle.etcs_schema.specs.Variables.{number}
use Rattle.etcs_edition.specs.Wire.{Field, IsWritable, any_number, bit_count, qualified, iterated, up_to}
use Rattle.etcs_edition.specs.Variables.{dir_field, level_fields, scale_field}
use Rattle.etcs_edition.specs.TrackPackets.{danger_point_fields, difference_fields, end_timer_fields, gradient_element_fields, level_order_fields, link_fields, orders_fields, overlap_fields, profile_fields, section_fields, section_timer_fields, speed_element_fields, terms_fields}
use Rattle.etcs_edition.specs.Keys as keys
use Rattle.etcs_edition.specs.Keys.{Reader, is_writable, one, ◌then◌}
use Rattle.etcs_edition.proofs.AgreeLemmas.{Agree, count_append, fit_second}
use Rattle.etcs_edition.proofs.KeyLemmas.{Alike, Are, Keyed, keyed_elements, keyed_further, keyed_named, keyed_optional, keyed_then}
use Rattle.etcs_edition.proofs.KeyPartLemmas.{keyed_as, keyed_sized, keyed_tested, object_alike, tested_sized, tested_then, with_length}
use Rattle.etcs_edition.proofs.KeyVariableLemmas.{any_alike, keyed_any, keyed_dir, keyed_flag, keyed_level, keyed_release_speed, keyed_scale, keyed_speed, keyed_static_speed, keyed_two}
use Rattle.etcs_edition.proofs.TrackLemmas.{agree_gradient_element, agree_link, agree_profile, agree_speed_element}

-- ---- the parts of packets

read_link : Alike (Are link_fields) keys.link (object tracks.link).of
unfolding tracks.link
read_link =
    object_alike _ tracks.link link_fields
    (keyed_named link_fields link_struct.make link_struct.parts link_struct.again
    (keyed_then (keyed_any (codes "d_link") 15 refl)
    (keyed_then (keyed_optional (codes "nid_c") (one (any_number 10)) (number nid_c.fields) (λ c. any_number 10 c ∷ []) (any_alike 10 refl))
    (keyed_then (keyed_any (codes "nid_bg") 14 refl)
    (keyed_then (keyed_flag (codes "q_linkorientation"))
    (keyed_then (keyed_two (codes "q_linkreaction")) (keyed_any (codes "q_locacc") 6 refl)))))))

read_section_timer : Alike (Are section_timer_fields) keys.section_timer (object authorities.section_timer).of
unfolding authorities.section_timer
read_section_timer =
    object_alike _ authorities.section_timer section_timer_fields
    (keyed_named section_timer_fields section_timer_struct.make section_timer_struct.parts section_timer_struct.again
    (keyed_then (keyed_any (codes "t_sectiontimer") 10 refl) (keyed_any (codes "d_sectiontimerstoploc") 15 refl)))

read_section : Alike (Are section_fields) keys.section (object authorities.section).of
unfolding authorities.section
read_section =
    object_alike _ authorities.section section_fields
    (keyed_named section_fields section_struct.make section_struct.parts section_struct.again
    (keyed_then (keyed_any (codes "l_section") 15 refl)
    (keyed_optional (codes "section_timer") keys.section_timer (object authorities.section_timer) section_timer_fields read_section_timer)))

read_end_timer : Alike (Are end_timer_fields) keys.end_timer (object authorities.end_timer).of
unfolding authorities.end_timer
read_end_timer =
    object_alike _ authorities.end_timer end_timer_fields
    (keyed_named end_timer_fields end_timer_struct.make end_timer_struct.parts end_timer_struct.again
    (keyed_then (keyed_any (codes "t_endtimer") 10 refl) (keyed_any (codes "d_endtimerstartloc") 15 refl)))

read_danger_point : Alike (Are danger_point_fields) keys.danger_point (object authorities.danger_point).of
unfolding authorities.danger_point
read_danger_point =
    object_alike _ authorities.danger_point danger_point_fields
    (keyed_named danger_point_fields danger_point_struct.make danger_point_struct.parts danger_point_struct.again
    (keyed_then (keyed_any (codes "d_dp") 15 refl) (keyed_release_speed (codes "v_releasedp"))))

read_overlap : Alike (Are overlap_fields) keys.overlap (object authorities.overlap).of
unfolding authorities.overlap
read_overlap =
    object_alike _ authorities.overlap overlap_fields
    (keyed_named overlap_fields overlap_struct.make overlap_struct.parts overlap_struct.again
    (keyed_then (keyed_any (codes "d_startol") 15 refl)
    (keyed_then (keyed_any (codes "t_ol") 10 refl)
    (keyed_then (keyed_any (codes "d_ol") 15 refl) (keyed_release_speed (codes "v_releaseol"))))))

read_gradient_element : Alike (Are gradient_element_fields) keys.gradient_element (object tracks.gradient_element).of
unfolding tracks.gradient_element
read_gradient_element =
    object_alike _ tracks.gradient_element gradient_element_fields
    (keyed_named gradient_element_fields gradient_struct.make gradient_struct.parts gradient_struct.again
    (keyed_then (keyed_any (codes "d_gradient") 15 refl)
    (keyed_then (keyed_flag (codes "q_gdir")) (keyed_any (codes "g_a") 8 refl))))

read_difference : Alike (Are difference_fields) keys.difference (object tracks.difference).of
unfolding tracks.difference
read_difference =
    object_alike _ tracks.difference difference_fields
    (keyed_named difference_fields difference_struct.make difference_struct.parts difference_struct.again
    (keyed_then (keyed_two (codes "q_diff")) (keyed_then (keyed_any (codes "nc") 4 refl) (keyed_speed (codes "v_diff")))))

read_speed_element : Alike (Are speed_element_fields) keys.speed_element (object tracks.speed_element).of
unfolding tracks.speed_element
read_speed_element =
    object_alike _ tracks.speed_element speed_element_fields
    (keyed_named speed_element_fields speed_struct.make speed_struct.parts speed_struct.again
    (keyed_then (keyed_any (codes "d_static") 15 refl)
    (keyed_then (keyed_static_speed (codes "v_static"))
    (keyed_then (keyed_flag (codes "q_front"))
    (keyed_elements (codes "differences") keys.difference (object tracks.difference) difference_fields read_difference)))))

read_level_order : Alike (Are level_order_fields) keys.level_order (object transitions.level_order).of
unfolding transitions.level_order
read_level_order =
    object_alike _ transitions.level_order level_order_fields
    (keyed_named level_order_fields level_order_struct.make level_order_struct.parts level_order_struct.again
    (keyed_then (keyed_level (codes "m_leveltr")) (keyed_any (codes "l_ackleveltr") 15 refl)))

-- ---- how many bits bodies have

count_flat : {X : Type 0} (part : X → List Field) (most : ℕ) → ((x : X) → bit_count (part x) ≤ most) → (xs : List X)
    → bit_count (flat_map part xs) ≤ length xs * most
count_flat part most short [] = omega arith
count_flat part most short (x ∷ xs) =
    omega (arith, count_append (part x) (flat_map part xs), short x, count_flat part most short xs)

count_qualified : {X : Type 0} (part : X → List Field) (most : ℕ) → ((x : X) → bit_count (part x) ≤ most) → (o : Option X)
    → bit_count (qualified part o) ≤ 1 + most
count_qualified part most short None = omega arith
count_qualified part most short (Some x) = omega (arith, short x)

count_section : (s : Section) → bit_count (section_fields s) ≤ 41
count_section s = omega (arith, count_qualified section_timer_fields 25 (λ t. omega arith) s.timer)

count_terms : (t : TermsValue) → length t.sections < 32 → bit_count (terms_fields t) ≤ 1431
count_terms t few =
    let timer = qualified section_timer_fields t.section_timer in
    let end = qualified end_timer_fields t.end_timer in
    let danger = qualified danger_point_fields t.danger_point in
    let last = qualified overlap_fields t.overlap in
    let sections = flat_map section_fields t.sections in
    omega (
      arith,
      few,
      count_append (sections ++ any_number 15 t.l_endsection ∷ timer ++ end ++ danger) last,
      count_append (sections ++ any_number 15 t.l_endsection ∷ timer ++ end) danger,
      count_append (sections ++ any_number 15 t.l_endsection ∷ timer) end,
      count_append sections (any_number 15 t.l_endsection ∷ timer),
      count_flat section_fields 41 count_section t.sections,
      count_qualified section_timer_fields 25 (λ t. omega arith) t.section_timer,
      count_qualified end_timer_fields 25 (λ t. omega arith) t.end_timer,
      count_qualified danger_point_fields 22 (λ d. omega arith) t.danger_point,
      count_qualified overlap_fields 47 (λ o. omega arith) t.overlap,
    )

pub count_level : (v : Level) → bit_count (level_fields v) ≤ 11
count_level levels.L0 = omega arith
count_level (levels.Ntc ntc) = omega arith
count_level levels.L1 = omega arith
count_level levels.L2 = omega arith
count_level levels.L3 = omega arith

count_order : (o : LevelOrder) → bit_count (level_order_fields o) ≤ 26
count_order o =
    omega (arith, count_append (level_fields o.level) (any_number 15 o.acknowledge ∷ []), count_level o.level)

pub scale_width : (v : Scale) → (scale_field v).width ≡ 2
scale_width scales.TenCentimetres = refl
scale_width scales.Metre = refl
scale_width scales.TenMetres = refl

count_orders : (o : Orders) → length o.further < 32 → bit_count (orders_fields o) ≤ 880
count_orders o few =
    let later = iterated level_order_fields o.further in
    omega (
      arith,
      few,
      scale_width o.scale,
      count_append (level_order_fields o.first) later,
      count_order o.first,
      count_flat level_order_fields 26 count_order o.further,
    )

-- ---- members of packets

terms_same : (p : ℕ × (ℕ × (List Section × (ℕ × (Option SectionTimer × (Option EndTimer × (Option DangerPoint × Option Overlap)))))))
    → (up_to 7 120 p.0 ∷ []) ++ ((any_number 10 p.1.0 ∷ []) ++ (iterated section_fields p.1.1.0 ++ ((any_number 15 p.1.1.1.0 ∷ [])
    ++ (qualified section_timer_fields p.1.1.1.1.0 ++ (qualified end_timer_fields p.1.1.1.1.1.0
    ++ (qualified danger_point_fields p.1.1.1.1.1.1.0 ++ qualified overlap_fields p.1.1.1.1.1.1.1))))))
    ≡ terms_fields (conditions_struct.make p)
terms_same p = simp append_assoc refl

keyed_terms : Keyed keys.terms authorities.terms terms_fields
unfolding authorities.terms authorities.end_parts
keyed_terms =
    keyed_named terms_fields conditions_struct.make conditions_struct.parts conditions_struct.again
    (keyed_as terms_same
    (keyed_then (keyed_speed (codes "end_speed"))
    (keyed_then (keyed_any (codes "end_timeout") 10 refl)
    (keyed_then (keyed_elements (codes "sections") keys.section (object authorities.section) section_fields read_section)
    (keyed_then (keyed_any (codes "l_endsection") 15 refl)
    (keyed_then (keyed_optional (codes "section_timer") keys.section_timer (object authorities.section_timer) section_timer_fields read_section_timer)
    (keyed_then (keyed_optional (codes "end_timer") keys.end_timer (object authorities.end_timer) end_timer_fields read_end_timer)
    (keyed_then (keyed_optional (codes "danger_point") keys.danger_point (object authorities.danger_point) danger_point_fields read_danger_point)
    (keyed_optional (codes "overlap") keys.overlap (object authorities.overlap) overlap_fields read_overlap)))))))))

short_same : (l k : ℕ) → l ≡ k → is_writable (any_number 13 l) ≡ nat_le k 8191
short_same l k same = grind (arith, nat_tests, same)

-- what a packet with elements has after its number
abbrev pub body_fields : {B : Type 0} → (B → List Field) → Dir × B → List Field
body_fields f p = dir_field p.0 ∷ with_length 23 f p.1

keyed_profile : {X : Type 0} (name : List ℕ) (layout : Format X) (element : ObjectMembers layout.rows) (read : Reader)
    (part : X → List Field) → ((x : X) → Agree (layout.rows x) (part x)) → Alike (Are part) read (object element).of
    → Keyed (keys.to_train (keys.q_scale then keys.first_and_further name read)) (tracks.profile name layout element)
    (body_fields (profile_fields part))
keyed_profile name layout element read part agree same =
    keyed_tested (here Range) (tracks.is_short layout) (tracks.profile_short layout)
    (tested_then (here Range) (λ p. nat_le (23 + width ((elements_layout layout).rows p)) 8191) keyed_dir
    (tested_sized 10 23 (λ p. nat_le (23 + width ((elements_layout layout).rows p)) 8191) (λ p.
    short_same (23 + bit_count (profile_fields part p)) (23 + width ((elements_layout layout).rows p))
    (ap (λ (n : ℕ). 23 + n) (sym (agree_profile layout agree p).size)))
    (keyed_named (profile_fields part) profile_struct.make profile_struct.parts profile_struct.again
    (keyed_then keyed_scale (keyed_further name read (object element) part same)))))

keyed_to_train : {B : Type 0} {rows : B → List Row} {m : keys.Members} {a : MemberCodec rows} (f : B → List Field)
    → ((x : B) → AllByRecursion IsWritable (f x) → 23 + bit_count (f x) < 8192) → Keyed m a f
    → Keyed (keys.to_train m) (headed a) (body_fields f)
keyed_to_train f short k = keyed_then keyed_dir (keyed_sized 10 23 short k)

pub keyed_linking : Keyed (keys.to_train (keys.q_scale then keys.first_and_further (codes "links") keys.link)) tracks.linking.members
    (body_fields (profile_fields link_fields))
unfolding tracks.linking
keyed_linking = keyed_profile (codes "links") link_layout tracks.link keys.link link_fields agree_link read_link

pub keyed_gradient : Keyed (keys.to_train (keys.q_scale then keys.first_and_further (codes "elements") keys.gradient_element))
    tracks.gradient.members (body_fields (profile_fields gradient_element_fields))
unfolding tracks.gradient
keyed_gradient =
    keyed_profile (codes "elements") gradient_layout tracks.gradient_element keys.gradient_element gradient_element_fields
    agree_gradient_element read_gradient_element

pub keyed_speed_profile : Keyed (keys.to_train (keys.q_scale then keys.first_and_further (codes "elements") keys.speed_element))
    tracks.speed_profile.members (body_fields (profile_fields speed_element_fields))
unfolding tracks.speed_profile
keyed_speed_profile =
    keyed_profile (codes "elements") speed_layout tracks.speed_element keys.speed_element speed_element_fields
    agree_speed_element read_speed_element

-- Q_SCALE, and V_MAIN in packet 12
abbrev pub main_fields : Scale × (ℕ × TermsValue) → List Field
main_fields p = scale_field p.0 ∷ up_to 7 120 p.1.0 ∷ terms_fields p.1.1

abbrev pub no_main_fields : Scale × TermsValue → List Field
no_main_fields p = scale_field p.0 ∷ terms_fields p.1

pub keyed_with_main : Keyed (keys.to_train (keys.q_scale then keys.key (codes "v_main") (up_to 7 120) then keys.terms))
    authorities.with_main.members (body_fields main_fields)
unfolding authorities.with_main
keyed_with_main =
    keyed_to_train main_fields (λ p fit. omega (arith, scale_width p.0, count_terms p.1.1 fit.1.1.1.1.0.0))
    (keyed_then keyed_scale (keyed_then (keyed_speed (codes "v_main")) keyed_terms))

pub keyed_without_main : Keyed (keys.to_train (keys.q_scale then keys.terms)) authorities.without_main.members
    (body_fields no_main_fields)
unfolding authorities.without_main
keyed_without_main =
    keyed_to_train no_main_fields (λ p fit. omega (arith, scale_width p.0, count_terms p.1 fit.1.1.1.0.0))
    (keyed_then keyed_scale keyed_terms)

few_orders : (o : Orders) → AllByRecursion IsWritable (orders_fields o) → length o.further < 32
few_orders o fit =
    (fit_second (level_order_fields o.first) (iterated level_order_fields o.further) fit.1.1).0.0

pub keyed_transition : Keyed (keys.to_train (keys.q_scale then keys.key (codes "d_leveltr") (any_number 15)
    then keys.first_and_further (codes "transitions") keys.level_order)) transitions.transition.members (body_fields orders_fields)
unfolding transitions.transition
keyed_transition =
    keyed_to_train orders_fields (λ o fit. omega (arith, count_orders o (few_orders o fit)))
    (keyed_named orders_fields orders_struct.make orders_struct.parts orders_struct.again
    (keyed_then keyed_scale
    (keyed_then (keyed_any (codes "d_leveltr") 15 refl)
    (keyed_further (codes "transitions") keys.level_order (object transitions.level_order) level_order_fields read_level_order))))
