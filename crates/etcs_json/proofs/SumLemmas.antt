-- A movement authority and a position report have the form of one of two packets: the members that are
-- written are the members of the form.
use Rattle.std.proofs.Common.{◌≡◌, ◌∙◌, ℕ, Option, Some, None, Result, Ok, Err, inl, inr, refl, sym, ap}
use Rattle.serde_json.specs.Data.{Data, object as object_data}
use Rattle.etcs_bits.specs.declared.variables.identity.Identity.{Identity}
use Rattle.etcs_bits.specs.layout.Rows.{alone}
use Rattle.etcs_profile.specs.Authority.{AuthorityValue, WithMain, WithoutMain, parts_by_main as authority_by, authority_value, make_authority}
use Rattle.etcs_profile.specs.Track.{numbered_authority, make_track_packet}
use Rattle.etcs_profile.specs.declared.track.cover.CoverMarker.{CoverMarker}
use Rattle.etcs_profile.specs.declared.track.TrackPacket.TheVariants as track
use Rattle.etcs_radio.specs.Report.{WithOne, WithTwo, parts_by_previous as report_by, make_report, report_value, report_situation}
use Rattle.etcs_radio.specs.TrainPacket.{numbered_report, make_train_packet}
use Rattle.etcs_radio.specs.declared.report.Report.{Report}
use Rattle.etcs_radio.specs.declared.train_packet.TrainPacket.TheVariants as train
use Rattle.etcs_json.specs.Authority.{authority, either_authority, end_parts, terms, with_main, without_main}
use Rattle.etcs_json.specs.AuthorityWriting.{written_members}
use Rattle.etcs_schema.specs.Choices.{with_number}
use Rattle.etcs_json.specs.Cover.{cover, cover_marker}
use Rattle.etcs_schema.specs.Fault.{Fault}
use Rattle.etcs_schema.specs.Reading.{◌>>=◌, as_kind, only_keys}
use Rattle.etcs_json.specs.Report.{either_report, report, situation, with_one, with_two}
use Rattle.etcs_json.specs.ReportWriting.{first_members as report_first, last_members as report_last, written_members as sent_report}
use Rattle.etcs_schema.specs.Codec.{object}
use Rattle.etcs_json.specs.TrackPackets.{track_numbered, track_packet}
use Rattle.etcs_json.specs.TrainPackets.{train_numbered, train_packet}
use Rattle.etcs_schema.specs.lemmas.SortedLemmas.{made_members, members_of}

-- ---- a movement authority

authority_sent_by : (main : Option ℕ) (a : AuthorityValue) → object_data (members_of (written_members (authority_value a.dir a.scale main a.terms))) ≡ either_authority.to (authority_by main a)
unfolding written_members with_main without_main terms end_parts
authority_sent_by None a = ap object_data (sym (made_members ((with_number without_main).members.to (a.dir, (a.scale, a.terms))) refl))
authority_sent_by (Some v) a = ap object_data (sym (made_members ((with_number with_main).members.to (a.dir, (a.scale, (v, a.terms)))) refl))

pub authority_sent : (a : AuthorityValue) → object_data (members_of (written_members a)) ≡ authority.to a
unfolding authority
authority_sent a = authority_sent_by a.main a

-- ---- a position report

report_sent_by : (previous : Option Identity) (r : Report) → object_data (members_of (sent_report (report_value previous r.scale r.lrbg (report_situation r)))) ≡ either_report.to (report_by previous r)
unfolding report_first report_last with_one with_two situation alone
report_sent_by None r = ap object_data (sym (made_members ((with_number with_one).members.to (r.scale, (r.lrbg, report_situation r))) refl))
report_sent_by (Some previous) r = ap object_data (sym (made_members ((with_number with_two).members.to (r.scale, (r.lrbg, (previous, report_situation r)))) refl))

pub report_sent : (r : Report) → object_data (members_of (sent_report r)) ≡ report.to r
unfolding report
report_sent r = report_sent_by r.previous r

-- ---- an authority and a report as one of all packets

authority_to_by : (main : Option ℕ) (a : AuthorityValue) → track_numbered.to (numbered_authority (authority_by main a)) ≡ either_authority.to (authority_by main a)
authority_to_by None a = refl
authority_to_by (Some v) a = refl

pub authority_to : (a : AuthorityValue) → track_packet.to (track.Authority a) ≡ authority.to a
unfolding authority
authority_to a = authority_to_by a.main a

with_main_as : (r : Result WithMain Fault) → as_kind make_track_packet (as_kind inr (as_kind inr (as_kind inl r))) ≡ as_kind track.Authority (as_kind make_authority (as_kind inl r))
with_main_as (Ok p) = refl
with_main_as (Err f) = refl

pub with_main_read : (d : Data) → as_kind make_track_packet (track_numbered.of 12 d) ≡ as_kind track.Authority (as_kind make_authority (either_authority.of 12 d))
with_main_read d = with_main_as _

without_main_as : (r : Result WithoutMain Fault) → as_kind make_track_packet (as_kind inr (as_kind inr (as_kind inr (as_kind inl r)))) ≡ as_kind track.Authority (as_kind make_authority (as_kind inr r))
without_main_as (Ok p) = refl
without_main_as (Err f) = refl

pub without_main_read : (d : Data) → as_kind make_track_packet (track_numbered.of 15 d) ≡ as_kind track.Authority (as_kind make_authority (either_authority.of 15 d))
without_main_read d = without_main_as _

report_to_by : (previous : Option Identity) (r : Report) → train_numbered.to (numbered_report (report_by previous r)) ≡ either_report.to (report_by previous r)
report_to_by None r = refl
report_to_by (Some i) r = refl

pub report_to : (r : Report) → train_packet.to (train.Report r) ≡ report.to r
unfolding report
report_to r = report_to_by r.previous r

with_one_as : (r : Result WithOne Fault) → as_kind make_train_packet (as_kind inl r) ≡ as_kind train.Report (as_kind make_report (as_kind inl r))
with_one_as (Ok p) = refl
with_one_as (Err f) = refl

pub with_one_read : (d : Data) → as_kind make_train_packet (train_numbered.of 0 d) ≡ as_kind train.Report (as_kind make_report (either_report.of 0 d))
with_one_read d = with_one_as _

with_two_as : (r : Result WithTwo Fault) → as_kind make_train_packet (as_kind inr (as_kind inl r)) ≡ as_kind train.Report (as_kind make_report (as_kind inr r))
with_two_as (Ok p) = refl
with_two_as (Err f) = refl

pub with_two_read : (d : Data) → as_kind make_train_packet (train_numbered.of 1 d) ≡ as_kind train.Report (as_kind make_report (either_report.of 1 d))
with_two_read d = with_two_as _

-- ---- a cover marker as one of all packets

cover_to_same : {U A : Type 0} (r : Result U Fault) (s : Result A Fault) (make : A → CoverMarker) → (r >>= λ _. (s >>= λ m. Ok (make m))) ≡ as_kind make (r >>= λ _. s)
cover_to_same (Ok u) s make = refl
cover_to_same (Err f) s make = refl

cover_as : (r : Result ℕ Fault) → as_kind make_track_packet (as_kind inl r) ≡ as_kind track.Cover (as_kind (λ m. record { marker = m }) r)
cover_as (Ok m) = refl
cover_as (Err f) = refl

pub cover_read : (d : Data) → as_kind make_track_packet (track_numbered.of 0 d) ≡ as_kind track.Cover ((object cover_marker).of d)
unfolding cover_marker
cover_read d = cover_as _ ∙ ap (as_kind track.Cover) (sym (cover_to_same (only_keys (with_number cover).members.keys d) ((with_number cover).members.of d) _))
