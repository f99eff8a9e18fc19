-- The forms of the edition are those that the codecs write.
use Rattle.std.proofs.Common.{◌≡◌, ℕ, Bool, true, false, List, [], ◌∷◌, codes, Option, Some, None, refl, sym, ap}
use Rattle.serde_json.specs.Data.{Data}
use Rattle.etcs_bits.specs.bits.Number.{worth}
use Rattle.etcs_bits.specs.declared.variables.version.Version.{Version}
use Rattle.etcs_bits.specs.declared.variables.version.Version.TheVariants as versions
use Rattle.etcs_bits.specs.declared.variables.scale.Scale.{Scale}
use Rattle.etcs_bits.specs.declared.variables.scale.Scale.TheVariants as scales
use Rattle.etcs_bits.specs.declared.variables.direction.Dir.{Dir}
use Rattle.etcs_bits.specs.declared.variables.direction.Dir.TheVariants as dirs
use Rattle.etcs_bits.specs.declared.variables.duplicate.Dup.{Dup}
use Rattle.etcs_bits.specs.declared.variables.duplicate.Dup.TheVariants as dups
use Rattle.etcs_bits.specs.declared.variables.level.Level.{Level}
use Rattle.etcs_bits.specs.declared.variables.level.Level.TheVariants as levels
use Rattle.etcs_bits.specs.declared.variables.train3.Train3.{Train3}
use Rattle.etcs_bits.specs.declared.variables.train3.Train3.TheVariants as relations
use Rattle.etcs_bits.specs.declared.variables.identity.Identity.{Identity}
use Rattle.etcs_bits.specs.layout.Rows.{alone}
use Rattle.etcs_bits.specs.variables.Level.{m_level}
use Rattle.etcs_bits.specs.variables.Train3.{train3_number}
use Rattle.etcs_bits.specs.variables.Variables.{version_number, dup_number, scale_number, dir_number}
use Rattle.etcs_profile.specs.declared.track.linking.Link.{Link}
use Rattle.etcs_profile.specs.declared.track.gradient.GradientElement.{GradientElement}
use Rattle.etcs_profile.specs.declared.track.speed.Difference.{Difference}
use Rattle.etcs_profile.specs.declared.track.speed.SpeedElement.{SpeedElement}
use Rattle.etcs_profile.specs.declared.track.transition.LevelOrder.{LevelOrder}
use Rattle.etcs_profile.specs.declared.section.Section.{Section}
use Rattle.etcs_profile.specs.declared.section.SectionTimer.{SectionTimer}
use Rattle.etcs_profile.specs.declared.end_timer.EndTimer.{EndTimer}
use Rattle.etcs_profile.specs.declared.danger_point.DangerPoint.{DangerPoint}
use Rattle.etcs_profile.specs.declared.overlap.Overlap.{Overlap}
use Rattle.etcs_profile.specs.declared.track.TrackPacket.{TrackPacket}
use Rattle.etcs_profile.specs.declared.track.TrackPacket.TheVariants as packets
use Rattle.etcs_profile.specs.Authority.{AuthorityValue, parts_by_main}
use Rattle.etcs_profile.specs.Track.{numbered_authority}
use Rattle.etcs_radio.specs.declared.integrity.Integrity.{Integrity}
use Rattle.etcs_radio.specs.declared.integrity.Integrity.TheVariants as lengths
use Rattle.etcs_radio.specs.declared.message.Message.{Message}
use Rattle.etcs_radio.specs.declared.message.Message.TheVariants as messages
use Rattle.etcs_radio.specs.declared.report.Report.{Report}
use Rattle.etcs_radio.specs.declared.train_packet.TrainPacket.{TrainPacket}
use Rattle.etcs_radio.specs.declared.train_packet.TrainPacket.TheVariants as train_packets
use Rattle.etcs_radio.specs.Integrity.{q_length}
use Rattle.etcs_radio.specs.Report.{parts_by_previous}
use Rattle.etcs_radio.specs.TrainPacket.{numbered_report}
use Rattle.etcs_schema.specs.Codec.{encoded_items, object, optional}
use Rattle.etcs_schema.specs.KeyedVariables.{variable_entries}
use Rattle.etcs_json.specs.AnyMessage.{message}
use Rattle.etcs_json.specs.Authority.{with_main, without_main, terms, end_parts, section, section_timer, end_timer, danger_point, overlap}
use Rattle.etcs_json.specs.Cover.{cover}
use Rattle.etcs_json.specs.Messages.{movement, position}
use Rattle.etcs_json.specs.Raw.{raw_packet}
use Rattle.etcs_json.specs.RawTrain.{raw_train_packet}
use Rattle.etcs_json.specs.Report.{situation, with_one, with_two}
use Rattle.etcs_json.specs.Telegrams.{telegram, header}
use Rattle.etcs_json.specs.TrackPackets.{link, linking, gradient_element, gradient, difference, speed_element, speed_profile, track_numbered, track_packet}
use Rattle.etcs_json.specs.TrainPackets.{train_numbered, train_packet}
use Rattle.etcs_json.specs.Transition.{level_order, transition}
use Rattle.etcs_telegram.specs.Record.{Telegram}
use Rattle.etcs_edition.specs.Wire.{bit}
use Rattle.etcs_edition.specs.Variables.{version_field, dup_field, scale_field, dir_field, train3_field, level_fields}
use Rattle.etcs_edition.specs.TrainPackets.{integrity_fields}
use Rattle.etcs_edition.specs.Forms.{numbers, link_form, section_timer_form, section_form, end_timer_form, danger_point_form, overlap_form, gradient_element_form, difference_form, speed_element_form, level_order_form, authority_form, track_packet_form, telegram_form, report_form, train_packet_form, message_form}
use Rattle.etcs_edition.proofs.TelegramLemmas.{same_size}

-- ---- numbers with names

same_flag : (b : Bool) → (bit b).number ≡ worth b
same_flag true = refl
same_flag false = refl

same_version : (v : Version) → (version_field v).number ≡ version_number v
same_version versions.V2_0 = refl
same_version versions.V2_1 = refl

same_dup : (v : Dup) → (dup_field v).number ≡ dup_number v
same_dup dups.Single = refl
same_dup dups.Next = refl
same_dup dups.Previous = refl

same_scale : (v : Scale) → (scale_field v).number ≡ scale_number v
same_scale scales.TenCentimetres = refl
same_scale scales.Metre = refl
same_scale scales.TenMetres = refl

same_dir : (v : Dir) → (dir_field v).number ≡ dir_number v
same_dir dirs.Reverse = refl
same_dir dirs.Nominal = refl
same_dir dirs.Both = refl

same_relation : (v : Train3) → (train3_field v).number ≡ train3_number v
same_relation relations.Reverse = refl
same_relation relations.Nominal = refl
same_relation relations.Unknown = refl

same_level : (name : List ℕ) (v : Level)
    → numbers (name ∷ codes "nid_ntc" ∷ []) (level_fields v) ≡ variable_entries (name ∷ codes "nid_ntc" ∷ []) (m_level.rows v)
unfolding alone
same_level name levels.L0 = refl
same_level name (levels.Ntc ntc) = refl
same_level name levels.L1 = refl
same_level name levels.L2 = refl
same_level name levels.L3 = refl

same_length : (v : Integrity)
    → numbers (codes "q_length" ∷ codes "l_trainint" ∷ []) (integrity_fields v)
    ≡ variable_entries (codes "q_length" ∷ codes "l_trainint" ∷ []) (q_length.rows v)
unfolding alone
same_length lengths.Q0 = refl
same_length (lengths.Q1 n) = refl
same_length (lengths.Q2 n) = refl
same_length lengths.Q3 = refl

-- ---- lists and optional parts

same_items : {X : Type 0} (f g : X → Data) → ((x : X) → f x ≡ g x) → (xs : List X) → encoded_items f xs ≡ encoded_items g xs
same_items f g same [] = refl
same_items f g same (x ∷ xs) = rw (same x, same_items f g same xs) refl

same_option : {X : Type 0} (f g : X → Data) → ((x : X) → f x ≡ g x) → (o : Option X) → optional f o ≡ optional g o
same_option f g same None = refl
same_option f g same (Some x) = ap Some (same x)

-- ---- the parts of packets

same_link : (l : Link) → link_form l ≡ (object link).to l
unfolding link
same_link l = rw (same_flag l.nominal) refl

same_section_timer : (t : SectionTimer) → section_timer_form t ≡ (object section_timer).to t
unfolding section_timer
same_section_timer t = refl

same_section : (s : Section) → section_form s ≡ (object section).to s
unfolding section
same_section s = rw (same_option section_timer_form (object section_timer).to same_section_timer s.timer) refl

same_end_timer : (t : EndTimer) → end_timer_form t ≡ (object end_timer).to t
unfolding end_timer
same_end_timer t = refl

same_danger_point : (d : DangerPoint) → danger_point_form d ≡ (object danger_point).to d
unfolding danger_point
same_danger_point d = refl

same_overlap : (o : Overlap) → overlap_form o ≡ (object overlap).to o
unfolding overlap
same_overlap o = refl

same_gradient_element : (e : GradientElement) → gradient_element_form e ≡ (object gradient_element).to e
unfolding gradient_element
same_gradient_element e = rw (same_flag e.uphill) refl

same_difference : (d : Difference) → difference_form d ≡ (object difference).to d
unfolding difference
same_difference d = refl

same_speed_element : (e : SpeedElement) → speed_element_form e ≡ (object speed_element).to e
unfolding speed_element
same_speed_element e =
    rw (same_flag e.front, same_items difference_form (object difference).to same_difference e.differences) refl

same_level_order : (o : LevelOrder) → level_order_form o ≡ (object level_order).to o
unfolding level_order
same_level_order o = rw (same_level (codes "m_leveltr") o.level) refl

-- ---- packets to trains

same_authority : (main : Option ℕ) (a : AuthorityValue)
    → authority_form a main ≡ track_numbered.to (numbered_authority (parts_by_main main a))
unfolding with_main without_main terms end_parts
same_authority (Some v) a =
    rw (
      same_dir a.dir,
      same_scale a.scale,
      same_items section_form (object section).to same_section a.terms.sections,
      same_option section_timer_form (object section_timer).to same_section_timer a.terms.section_timer,
      same_option end_timer_form (object end_timer).to same_end_timer a.terms.end_timer,
      same_option danger_point_form (object danger_point).to same_danger_point a.terms.danger_point,
      same_option overlap_form (object overlap).to same_overlap a.terms.overlap,
    ) refl
same_authority None a =
    rw (
      same_dir a.dir,
      same_scale a.scale,
      same_items section_form (object section).to same_section a.terms.sections,
      same_option section_timer_form (object section_timer).to same_section_timer a.terms.section_timer,
      same_option end_timer_form (object end_timer).to same_end_timer a.terms.end_timer,
      same_option danger_point_form (object danger_point).to same_danger_point a.terms.danger_point,
      same_option overlap_form (object overlap).to same_overlap a.terms.overlap,
    ) refl

pub same_track_packet : (p : TrackPacket) → track_packet_form p ≡ track_packet.to p
unfolding cover linking gradient speed_profile transition raw_packet
same_track_packet (packets.Cover p) = refl
same_track_packet (packets.Linking p) =
    rw (same_dir p.0, same_scale p.1.scale, same_link p.1.first, same_items link_form (object link).to same_link p.1.further) refl
same_track_packet (packets.Authority a) = same_authority a.main a
same_track_packet (packets.Gradient p) =
    rw (
      same_dir p.0,
      same_scale p.1.scale,
      same_gradient_element p.1.first,
      same_items gradient_element_form (object gradient_element).to same_gradient_element p.1.further,
    ) refl
same_track_packet (packets.Speed p) =
    rw (
      same_dir p.0,
      same_scale p.1.scale,
      same_speed_element p.1.first,
      same_items speed_element_form (object speed_element).to same_speed_element p.1.further,
    ) refl
same_track_packet (packets.Transition p) =
    rw (
      same_dir p.0,
      same_scale p.1.scale,
      same_level_order p.1.first,
      same_items level_order_form (object level_order).to same_level_order p.1.further,
    ) refl
same_track_packet (packets.Raw p) = rw (same_dir p.dir) refl

-- ---- telegrams

pub same_telegram : (t : Telegram) → telegram_form t ≡ (object telegram).to t
unfolding telegram header
same_telegram t =
    rw (
      sym (same_size t.size),
      same_version t.header.version,
      same_dup t.header.dup,
      same_flag t.header.linked,
      same_items track_packet_form track_packet.to same_track_packet t.packets,
    ) refl

-- ---- packets from trains, and radio messages

same_report : (previous : Option Identity) (r : Report)
    → report_form r previous ≡ train_numbered.to (numbered_report (parts_by_previous previous r))
unfolding with_one with_two situation
same_report None r =
    rw (
      same_scale r.scale,
      same_relation r.orientation,
      same_relation r.side,
      same_relation r.running,
      same_length r.length,
      same_level (codes "m_level") r.level,
    ) refl
same_report (Some previous) r =
    rw (
      same_scale r.scale,
      same_relation r.orientation,
      same_relation r.side,
      same_relation r.running,
      same_length r.length,
      same_level (codes "m_level") r.level,
    ) refl

pub same_train_packet : (p : TrainPacket) → train_packet_form p ≡ train_packet.to p
unfolding raw_train_packet
same_train_packet (train_packets.Report r) = same_report r.previous r
same_train_packet (train_packets.Raw p) = refl

pub same_message : (m : Message) → message_form m ≡ message.to m
unfolding message movement position
same_message (messages.Movement m) =
    rw (same_flag m.ack, same_items track_packet_form track_packet.to same_track_packet m.packets) refl
same_message (messages.Position m) =
    rw (same_items train_packet_form train_packet.to same_train_packet m.packets) refl
