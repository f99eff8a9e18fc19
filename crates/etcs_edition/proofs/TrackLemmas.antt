-- The packets from track to train agree.
use Rattle.std.proofs.Common.{◌≡◌, ℕ, ◌+◌, ◌==◌, Bool, true, false, List, [], ◌∷◌, ◌++◌, length, Option, Some, None, refl, ap, subst, append_assoc, arith, lit<}
use Rattle.std.specs.Prelude.{not, ◌||◌}
use Rattle.std.specs.List.{AllByRecursion}
use Rattle.std.proofs.lemmas.List.{append-nil}
use Rattle.std.proofs.lemmas.Bool.{le-leb, false≢true}
use Rattle.etcs_bits.specs.declared.variables.direction.Dir.{Dir}
use Rattle.etcs_bits.proofs.NumberLemmas.{num-num_of_bits}
use Rattle.etcs_bits.proofs.KeptLemmas.{kept_allowed}
use Rattle.etcs_bits.specs.layout.Rows.{Row, alone, width}
use Rattle.etcs_bits.specs.layout.Fields.{l_packet}
use Rattle.etcs_bits.specs.layout.Format.{Format, chosen, kept_bits}
use Rattle.etcs_bits.specs.variables.Variables.{plain, dir_variable, dir_number}
use Rattle.etcs_profile.specs.declared.track.linking.Link.{Link}
use Rattle.etcs_profile.specs.declared.track.gradient.GradientElement.{GradientElement}
use Rattle.etcs_profile.specs.declared.track.speed.Difference.{Difference}
use Rattle.etcs_profile.specs.declared.track.speed.SpeedElement.{SpeedElement}
use Rattle.etcs_profile.specs.declared.track.transition.LevelOrder.{LevelOrder}
use Rattle.etcs_profile.specs.declared.section.Section.{Section}
use Rattle.etcs_profile.specs.declared.section.SectionTimer.{SectionTimer}
use Rattle.etcs_profile.specs.declared.end_timer.EndTimer.{EndTimer}
use Rattle.etcs_profile.specs.declared.danger_point.DangerPoint.{DangerPoint}
use Rattle.etcs_profile.specs.declared.overlap.Overlap.{Overlap}
use Rattle.etcs_profile.specs.declared.raw.RawPacket.{RawPacket}
use Rattle.etcs_profile.specs.declared.track.TrackPacket.{TrackPacket}
use Rattle.etcs_profile.specs.declared.track.TrackPacket.TheVariants as packets
use Rattle.etcs_profile.specs.Profile.{Profile}
use Rattle.etcs_profile.specs.Terms.{TermsValue, terms as terms_format}
use Rattle.etcs_profile.specs.Parts.{section as section_format, section_timer as section_timer_format, end_timer as end_timer_format, danger_point as danger_point_format, overlap as overlap_format}
use Rattle.etcs_profile.specs.Authority.{AuthorityValue, parts_by_main}
use Rattle.etcs_profile.specs.Transition.{Orders, level_order, level_orders}
use Rattle.etcs_profile.specs.Elements.{elements}
use Rattle.etcs_profile.specs.PacketNumbers.{nid_track, is_known}
use Rattle.etcs_profile.specs.Raw.{other_of}
use Rattle.etcs_profile.specs.Track.{link as link_format, gradient_element, difference as difference_format, speed_element, track_packet as track_format, track_numbered, all_but_the_end, numbered_authority}
use Rattle.etcs_edition.specs.Wire.{Field, num, any_number, bit_count, bits_of_fields, IsWritable, raw_fields}
use Rattle.etcs_edition.specs.TrackPackets.{packet_to_train, link_fields, section_fields, section_timer_fields, end_timer_fields, danger_point_fields, overlap_fields, terms_fields, gradient_element_fields, difference_fields, speed_element_fields, level_order_fields, orders_fields, profile_fields, authority_fields, track_packet_fields}
use Rattle.etcs_edition.proofs.AgreeLemmas.{Agree, same_num, agree_both, agree_any, agree_last, agree_qualified, agree_iterated, agree_bit}
use Rattle.etcs_edition.proofs.VariableLemmas.{agree_dir, agree_scale, agree_level, agree_speed, agree_release_speed, agree_static_speed, agree_zero_to_two}

-- ---- parts

country : (c : ℕ) → Agree (alone (plain 10) c) (any_number 10 c ∷ [])
country c = agree_last (plain 10) c refl

pub agree_link : (l : Link) → Agree (link_format.rows l) (link_fields l)
agree_link l =
    agree_any (plain 15) l.distance refl (
    agree_both (agree_qualified country l.country) (
    agree_any (plain 14) l.group refl (
    agree_both (agree_bit l.nominal) (
    agree_both (agree_zero_to_two l.reaction) (
    agree_last (plain 6) l.accuracy refl)))))

pub agree_section_timer : (t : SectionTimer) → Agree (section_timer_format.rows t) (section_timer_fields t)
agree_section_timer t = agree_any (plain 10) t.time refl (agree_last (plain 15) t.stop refl)

pub agree_section : (s : Section) → Agree (section_format.rows s) (section_fields s)
agree_section s = agree_any (plain 15) s.length refl (agree_qualified agree_section_timer s.timer)

pub agree_end_timer : (t : EndTimer) → Agree (end_timer_format.rows t) (end_timer_fields t)
agree_end_timer t = agree_any (plain 10) t.time refl (agree_last (plain 15) t.start refl)

pub agree_danger_point : (d : DangerPoint) → Agree (danger_point_format.rows d) (danger_point_fields d)
agree_danger_point d = agree_any (plain 15) d.distance refl (agree_release_speed d.release_speed)

pub agree_overlap : (o : Overlap) → Agree (overlap_format.rows o) (overlap_fields o)
agree_overlap o =
    agree_any (plain 15) o.start refl (
    agree_any (plain 10) o.time refl (
    agree_any (plain 15) o.length refl (
    agree_release_speed o.release_speed)))

pub agree_terms : (t : TermsValue) → Agree (terms_format.rows t) (terms_fields t)
unfolding alone
agree_terms t = simp append_assoc (
    agree_both (agree_speed t.end_speed) (
    agree_any (plain 10) t.end_timeout refl (
    agree_both (agree_iterated agree_section t.sections) (
    agree_any (plain 15) t.l_endsection refl (
    agree_both (agree_qualified agree_section_timer t.section_timer) (
    agree_both (agree_qualified agree_end_timer t.end_timer) (
    agree_both (agree_qualified agree_danger_point t.danger_point) (
    agree_qualified agree_overlap t.overlap))))))))

pub agree_gradient_element : (e : GradientElement) → Agree (gradient_element.rows e) (gradient_element_fields e)
agree_gradient_element e =
    agree_any (plain 15) e.distance refl (agree_both (agree_bit e.uphill) (agree_last (plain 8) e.gradient refl))

pub agree_difference : (d : Difference) → Agree (difference_format.rows d) (difference_fields d)
agree_difference d = agree_both (agree_zero_to_two d.kind) (agree_any (plain 4) d.category refl (agree_speed d.speed))

pub agree_speed_element : (e : SpeedElement) → Agree (speed_element.rows e) (speed_element_fields e)
agree_speed_element e =
    agree_any (plain 15) e.distance refl (
    agree_both (agree_static_speed e.speed) (
    agree_both (agree_bit e.front) (
    agree_iterated agree_difference e.differences)))

pub agree_level_order : (o : LevelOrder) → Agree (level_order.rows o) (level_order_fields o)
agree_level_order o = agree_both (agree_level o.level) (agree_last (plain 15) o.acknowledge refl)

pub agree_orders : (o : Orders) → Agree (level_orders.rows o) (orders_fields o)
agree_orders o =
    agree_both (agree_scale o.scale) (
    agree_any (plain 15) o.d_leveltr refl (
    agree_both (agree_level_order o.first) (
    agree_iterated agree_level_order o.further)))

pub agree_profile : {X : Type 0} (element : Format X) {part : X → List Field}
    → ((x : X) → Agree (element.rows x) (part x)) → (p : Profile X)
    → Agree ((elements element).rows p) (profile_fields part p)
agree_profile element each p =
    agree_both (agree_scale p.scale) (agree_both (each p.first) (agree_iterated each p.further))

-- ---- a packet

pub agree_body : (before all : ℕ) {rows : List Row} {body : List Field} → before + 13 ≡ all → Agree rows body
    → Agree (alone l_packet (before + (13 + width rows)) ++ rows) (any_number 13 (all + bit_count body) ∷ body)
agree_body before all {rows = rows} {body = body} is a =
    let same : before + (13 + width rows) ≡ all + bit_count body = omega (arith, a.size, is) in
    subst (λ (l : ℕ). Agree (alone l_packet (before + (13 + width rows)) ++ rows) (any_number 13 l ∷ body)) same
    (agree_any l_packet (before + (13 + width rows)) refl a)

agree_to_train : (n : ℕ) (dir : Dir) {rows : List Row} {body : List Field} → nid_track.allows n ≡ true → Agree rows body
    → Agree (alone nid_track n ++ (alone dir_variable (dir_number dir) ++ (alone l_packet (10 + (13 + width rows)) ++ rows)))
    (packet_to_train n dir body)
agree_to_train n dir is a = agree_any nid_track n is (agree_both (agree_dir dir) (agree_body 10 23 refl a))

agree_authority : (main : Option ℕ) (a : AuthorityValue)
    → Agree ((chosen nid_track track_numbered all_but_the_end).rows (numbered_authority (parts_by_main main a))) (authority_fields a main)
agree_authority (Some v) a =
    agree_to_train 12 a.dir refl (agree_both (agree_scale a.scale) (agree_both (agree_speed v) (agree_terms a.terms)))
agree_authority None a = agree_to_train 15 a.dir refl (agree_both (agree_scale a.scale) (agree_terms a.terms))

-- ---- a packet whose body is kept as bits

pub bits_fit : (bits : List Bool) → AllByRecursion IsWritable (raw_fields bits)
bits_fit [] = tt
bits_fit (true ∷ bits) = ((lit< tt, refl), bits_fit bits)
bits_fit (false ∷ bits) = ((lit< tt, refl), bits_fit bits)

pub bits_size : (bits : List Bool) → bit_count (raw_fields bits) ≡ length bits
bits_size [] = refl
bits_size (b ∷ bits) = omega (arith, bits_size bits)

bits_join : (bits : List Bool) → bits_of_fields (raw_fields bits) ≡ bits
unfolding num
bits_join [] = refl
bits_join (true ∷ bits) = ap (λ (xs : List Bool). true ∷ xs) (bits_join bits)
bits_join (false ∷ bits) = ap (λ (xs : List Bool). false ∷ xs) (bits_join bits)

pub agree_raw : (before all : ℕ) (bits : List Bool) → before + 13 ≡ all
    → Agree ((kept_bits before).rows bits) (any_number 13 (all + bit_count (raw_fields bits)) ∷ raw_fields bits)
agree_raw before all bits is =
    let same : all + bit_count (raw_fields bits) ≡ before + 13 + length bits = omega (arith, is, bits_size bits) in
    record {
      fit = λ h. ((rw same h.0.0, refl), bits_fit bits);
      allowed = λ h.
          kept_allowed before bits (le-leb (before + 13 + length bits) 8191 (omega (arith, h.0.0, same)));
      bits = λ _.
          rw (same, bits_join bits, num-num_of_bits bits, append-nil bits, same_num 13 (before + 13 + length bits)) refl;
      size = omega (arith, bits_size bits);
    }

pub no_end : (known end : Bool) → not (known || end) ≡ true → not end ≡ true
no_end true end kept = absurd (false≢true kept)
no_end false end kept = kept

agree_raw_packet : (p : RawPacket) → Agree (track_format.rows (packets.Raw p)) (track_packet_fields (packets.Raw p))
agree_raw_packet p =
    let other = other_of p.number (length p.body) p.kept in
    agree_any nid_track p.number (no_end (is_known p.number) (p.number == 255) other) (
    agree_both (agree_dir p.dir) (agree_raw 10 23 p.body refl))

-- ---- any packet

pub agree_track_packet : (p : TrackPacket) → Agree (track_format.rows p) (track_packet_fields p)
agree_track_packet (packets.Cover p) = agree_any nid_track 0 refl (agree_last (plain 6) p.marker refl)
agree_track_packet (packets.Linking p) = agree_to_train 5 p.0 refl (agree_profile link_format agree_link p.1)
agree_track_packet (packets.Authority a) = agree_authority a.main a
agree_track_packet (packets.Gradient p) = agree_to_train 21 p.0 refl (agree_profile gradient_element agree_gradient_element p.1)
agree_track_packet (packets.Speed p) = agree_to_train 27 p.0 refl (agree_profile speed_element agree_speed_element p.1)
agree_track_packet (packets.Transition p) = agree_to_train 41 p.0 refl (agree_orders p.1)
agree_track_packet (packets.Raw p) = agree_raw_packet p
