-- The telegrams and the messages that are read by the edition are those that the codecs read.
use Rattle.std.proofs.Common.{◌≡◌, ℕ, ◌+◌, ◌<◌, ◌≤◌, ◌==◌, ◌⊎◌, Bool, true, false, List, [], ◌∷◌, ◌++◌, length, drop, None, Result, Ok, Err, refl, sym, ap, ap₂, ◌∙◌, subst, inr, arith, lit<}
use Rattle.std.specs.Prelude.{◌||◌, nat_le, nat_lt, codes, if◌then◌else◌}
use Rattle.std.specs.List.{AllByRecursion, list_any}
use Rattle.std.proofs.lemmas.Bool.{and_from, and_parts, false≢true}
use Rattle.std.proofs.lemmas.Bool.Decides.{nat_tests}
use Rattle.serde_json.specs.Data.{Data}
use Rattle.etcs_bits.specs.declared.layout.fault.FaultKind.TheVariants.{Downlink, Loop}
use Rattle.etcs_bits.specs.declared.variables.identity.Identity.{Identity}
use Rattle.etcs_bits.specs.declared.variables.scale.Scale.{Scale}
use Rattle.etcs_bits.specs.declared.variables.scale.Scale.TheVariants as scales
use Rattle.etcs_bits.specs.declared.variables.train3.Train3.{Train3}
use Rattle.etcs_bits.specs.declared.variables.train3.Train3.TheVariants as relations
use Rattle.etcs_bits.specs.layout.Rows.{AreAllowed, Row}
use Rattle.etcs_bits.specs.variables.Variables.{only as only_number, ranged}
use Rattle.etcs_profile.specs.declared.track.TrackPacket.{TrackPacket}
use Rattle.etcs_radio.specs.FoundRaw.{make_raw}
use Rattle.etcs_radio.specs.RawTrain.{other_of, raw_back}
use Rattle.etcs_radio.specs.Record.{Movement, Position}
use Rattle.etcs_radio.specs.Report.{Situation, report_value}
use Rattle.etcs_radio.specs.Required.{has_authority, has_report}
use Rattle.etcs_radio.specs.TrainNumbers.{is_kept, is_kept_number, nid_raw}
use Rattle.etcs_radio.specs.TrainPacket.{NumberedTrainPacket, make_train_packet}
use Rattle.etcs_radio.specs.declared.integrity.Integrity.{Integrity}
use Rattle.etcs_radio.specs.declared.integrity.Integrity.TheVariants as lengths
use Rattle.etcs_radio.specs.declared.message.Message.TheVariants as messages
use Rattle.etcs_radio.specs.declared.raw_train.RawTrainPacket.{RawTrainPacket}
use Rattle.etcs_radio.specs.declared.train_packet.TrainPacket.{TrainPacket}
use Rattle.etcs_radio.specs.declared.train_packet.TrainPacket.TheVariants as train_packets
use Rattle.etcs_json.specs.AnyMessage as any
use Rattle.etcs_json.specs.Messages as radio
use Rattle.etcs_json.specs.RawTrain as raws
use Rattle.etcs_json.specs.Report as reports
use Rattle.etcs_json.specs.Telegrams as telegrams
use Rattle.etcs_json.specs.TrackPackets as tracks
use Rattle.etcs_json.specs.TrainPackets as trains
use Rattle.etcs_schema.specs.Choices.{tag_member}
use Rattle.etcs_schema.specs.Codec.{MemberCodec, object, with_bits}
use Rattle.etcs_schema.specs.Fault.{Fault}
use Rattle.etcs_schema.specs.Reading.{◌>>=◌, allowed_number, only_keys}
use Rattle.etcs_schema.specs.Variables.{duplicate, is_allowed, version}
use Rattle.etcs_telegram.specs.Header.{header_struct}
use Rattle.etcs_edition.specs.Wire.{Field, IsWritable, allowed_if, any_number, bit_count, up_to}
use Rattle.etcs_edition.specs.Variables.{dup_field, identity_fields, level_fields, scale_field, train3_field, version_field}
use Rattle.etcs_edition.specs.Kept.{is_kept_to_track}
use Rattle.etcs_edition.specs.Message.{has_number, message_fields}
use Rattle.etcs_edition.specs.Telegram.{header_fields, user_bits}
use Rattle.etcs_edition.specs.TrackPackets.{track_packet_fields}
use Rattle.etcs_edition.specs.TrainPackets.{integrity_fields, situation_fields, train_packet_fields}
use Rattle.etcs_edition.specs.EncodedLines.{telegram_form_fields, message_form_fields}
use Rattle.etcs_edition.specs.Keys as keys
use Rattle.etcs_edition.specs.Keys.{Members, Reader, after_number, is_writable, key, kept_body, number_of, sized, ◌then◌}
use Rattle.etcs_edition.proofs.AgreeLemmas.{count_append}
use Rattle.etcs_edition.proofs.KeptLemmas.{kept_to_track}
use Rattle.etcs_edition.proofs.KeyLemmas.{Alike, Are, Both, Each, Keyed, both_bind, both_made, keyed_key, keyed_named, keyed_then, writable_one}
use Rattle.etcs_edition.proofs.KeyPartLemmas.{HasNumber, Tagged, both_after, either_alike, kept_fields, keyed_body, held, Held, keyed_packets, keyed_sized, keyed_unstated, numbered_alike, object_alike, tag_alike, tested_named, tested_packets, tested_then, with_length}
use Rattle.etcs_edition.proofs.KeyVariableLemmas.{dup_alike, keyed_any, keyed_flag, keyed_identity, keyed_length, keyed_level, keyed_scale, keyed_side, size_alike, size_key, version_alike, version_key}
use Rattle.etcs_edition.proofs.KeyFormLemmas.{count_level, scale_width}
use Rattle.etcs_edition.proofs.KeyPacketLemmas.{nid_numbers, number_any, numbered, read_track_packet}
use Rattle.etcs_edition.proofs.MessageLemmas.{same_required}
use Rattle.etcs_edition.proofs.TrackLemmas.{bits_size}

-- ---- position reports

keyed_bits : {X : Type 0} {other rows : X → List Row} {m : Members} {a : MemberCodec other} {f : X → List Field}
    (keeps : (x : X) → AreAllowed (rows x) → AreAllowed (other x)) → Keyed m a f → Keyed m (with_bits rows keeps a) f
keyed_bits keeps k = record { keys = k.keys; alike = k.alike }

keyed_lrbg : (country group : List ℕ) → Keyed (keys.identity country group) (reports.lrbg country group) identity_fields
keyed_lrbg country group = keyed_bits reports.lrbg_allowed (keyed_identity country group)

-- the situation does not depend on what is before it
abbrev on_report : Situation → List Field
on_report s =
    situation_fields (report_value None scales.TenCentimetres (record { country = 0; group = 0 }) s)

keyed_situation : Keyed keys.situation reports.situation on_report
unfolding reports.situation
keyed_situation =
    keyed_then (keyed_any (codes "d_lrbg") 15 refl)
    (keyed_then (keyed_side (codes "q_dirlrbg"))
    (keyed_then (keyed_side (codes "q_dlrbg"))
    (keyed_then (keyed_any (codes "l_doubtover") 15 refl)
    (keyed_then (keyed_any (codes "l_doubtunder") 15 refl)
    (keyed_then keyed_length
    (keyed_then (keyed_any (codes "v_train") 7 refl)
    (keyed_then (keyed_side (codes "q_dirtrain"))
    (keyed_then (keyed_any (codes "m_mode") 4 refl) (keyed_level (codes "m_level"))))))))))

side_width : (v : Train3) → (train3_field v).width ≡ 2
side_width relations.Reverse = refl
side_width relations.Nominal = refl
side_width relations.Unknown = refl

count_length : (v : Integrity) → bit_count (integrity_fields v) ≤ 17
count_length lengths.Q0 = omega arith
count_length (lengths.Q1 n) = omega arith
count_length (lengths.Q2 n) = omega arith
count_length lengths.Q3 = omega arith

count_situation : (s : Situation) → bit_count (on_report s) ≤ 100
count_situation s =
    let later : List Field =
    any_number 7 s.1.1.1.1.1.1.0 ∷ train3_field s.1.1.1.1.1.1.1.0 ∷ any_number 4 s.1.1.1.1.1.1.1.1.0
    ∷ level_fields s.1.1.1.1.1.1.1.1.1 in
    omega (
      arith,
      side_width s.1.0,
      side_width s.1.1.0,
      side_width s.1.1.1.1.1.1.1.0,
      count_append (integrity_fields s.1.1.1.1.1.0) later,
      count_length s.1.1.1.1.1.0,
      count_level s.1.1.1.1.1.1.1.1.1,
    )

abbrev one_fields : Scale × (Identity × Situation) → List Field
one_fields p = scale_field p.0 ∷ identity_fields p.1.0 ++ on_report p.1.1

abbrev two_fields : Scale × (Identity × (Identity × Situation)) → List Field
two_fields p = scale_field p.0 ∷ identity_fields p.1.0 ++ (identity_fields p.1.1.0 ++ on_report p.1.1.1)

keyed_one : Keyed (sized 21 (keys.q_scale then keys.identity (codes "nid_c") (codes "nid_bg") then keys.situation))
    reports.with_one.members (with_length 21 one_fields)
unfolding reports.with_one
keyed_one =
    keyed_sized 8 21 (λ p fit. omega (arith, scale_width p.0, count_situation p.1.1))
    (keyed_then keyed_scale (keyed_then (keyed_lrbg (codes "nid_c") (codes "nid_bg")) keyed_situation))

keyed_two : Keyed (sized 21 (keys.q_scale then keys.identity (codes "nid_c") (codes "nid_bg")
    then keys.identity (codes "prv_nid_c") (codes "prv_nid_bg") then keys.situation))
    reports.with_two.members (with_length 21 two_fields)
unfolding reports.with_two
keyed_two =
    keyed_sized 8 21 (λ p fit. omega (arith, scale_width p.0, count_situation p.1.1.1))
    (keyed_then keyed_scale
    (keyed_then (keyed_lrbg (codes "nid_c") (codes "nid_bg"))
    (keyed_then (keyed_lrbg (codes "prv_nid_c") (codes "prv_nid_bg")) keyed_situation)))

-- ---- a packet from train to track that is kept as bits

kept_by : (n bits : ℕ) → (n == 0) ≡ false → (n == 1) ≡ false → is_writable (up_to 8 254 n) ≡ true → 21 + bits < 8192
    → is_kept_to_track n bits ≡ true
kept_by n bits a b fits few = grind (arith, nat_tests, a, b, fits, few)

raw_made : (n : ℕ) (body : List Bool) → is_kept n (length body) ≡ true
    → any_number 8 n ∷ kept_fields 21 body ≡ train_packet_fields (train_packets.Raw (make_raw n body))
raw_made n body kept =
    ap (λ (r : RawTrainPacket). train_packet_fields (train_packets.Raw r))
    (sym (raw_back n body kept (is_kept n (length body)) refl))

raw_are : (n : ℕ) → is_writable (up_to 8 254 n) ≡ true
    → ((bits : ℕ) → 21 + bits < 8192 → is_kept_to_track n bits ≡ true) → (fs : List Field) (body : List Bool)
    → Are (kept_fields 21) fs body → Are (λ r. train_packet_fields (train_packets.Raw r)) (up_to 8 254 n ∷ fs) (make_raw n body)
raw_are n fits kept fs body are =
    let all = subst (AllByRecursion IsWritable) are.0 are.1 in
    let few : 21 + length body < 8192 = omega (arith, all.0.0, bits_size body) in
    let is = sym (kept_to_track n (length body)) ∙ kept (length body) few in (
      ap₂ (λ (f : Field) (gs : List Field). f ∷ gs) (number_any n fits) are.0 ∙ raw_made n body is,
      (writable_one (up_to 8 254 n) fits, are.1),
    )

raw_both : (n : ℕ) → is_writable (up_to 8 254 n) ≡ true
    → ((bits : ℕ) → 21 + bits < 8192 → is_kept_to_track n bits ≡ true) → (r : Result (List Field) Fault)
    → (s : Result (List Bool) Fault) → Both (Are (kept_fields 21)) r s
    → Both (Are (λ r. train_packet_fields (train_packets.Raw r))) (r >>= λ later. Ok (up_to 8 254 n ∷ later))
    ((s >>= λ y. numbered n y) >>= λ p. Ok (make_raw p.0 p.1))
raw_both n fits kept (Ok fs) (Ok body) both = raw_are n fits kept fs body both
raw_both n fits kept (Err e) (Err h) both = both
raw_both n fits kept (Ok fs) (Err h) both = absurd both
raw_both n fits kept (Err e) (Ok body) both = absurd both

raw_alike : (n : ℕ) (d : Data) → is_writable (up_to 8 254 n) ≡ true
    → ((bits : ℕ) → 21 + bits < 8192 → is_kept_to_track n bits ≡ true) → HasNumber (codes "nid_packet") n d
    → Both (Are (λ r. train_packet_fields (train_packets.Raw r)))
    (after_number (codes "nid_packet") (up_to 8 254 n) (kept_body 21) d) ((object raws.raw_train_packet).of d)
unfolding raws.raw_train_packet
raw_alike n d fits kept there =
    let few = (and_parts (nat_lt n 256) (nat_le n 254) fits).0 in
    let other = other_of n 0 (sym (kept_to_track n 0) ∙ kept 0 (lit< tt)) in
    let read = there (is_allowed nid_raw) (and_from (nat_lt n 256) (is_kept_number n) few other) in
    rw read
    (both_after (Are (λ r. train_packet_fields (train_packets.Raw r))) (only_keys raws.raw_train_packet.members.keys d) _ _
    (raw_both n fits kept _ _ ((keyed_body 8).alike d)))

-- ---- a packet from train to track

abbrev train_fields : NumberedTrainPacket → List Field
train_fields s = train_packet_fields (make_train_packet s)

train_after : (n : ℕ) (d : Data) → is_writable (up_to 8 254 n) ≡ true → HasNumber (codes "nid_packet") n d
    → Both (Are train_fields) (after_number (codes "nid_packet") (up_to 8 254 n) (keys.train_members n) d)
    (trains.train_numbered.of n d)
train_after n d fits there =
    let nid : List ℕ = codes "nid_packet" in
    either_alike train_fields (n == 0) nid (up_to 8 254 n) _ _ d _ _
    (λ is. numbered_alike nid n 0 (up_to 8 254) _ reports.with_one (with_length 21 one_fields) _ is fits (λ _. refl) keyed_one d there)
    (λ a. either_alike (λ s. train_fields (inr s)) (n == 1) nid (up_to 8 254 n) _ _ d _ _
    (λ is. numbered_alike nid n 1 (up_to 8 254) _ reports.with_two (with_length 21 two_fields) _ is fits (λ _. refl) keyed_two d there)
    (λ b. raw_alike n d fits (λ bits few. kept_by n bits a b fits few) there))

read_train_packet : Alike (Are train_packet_fields) keys.train_packet trains.train_packet.of
read_train_packet d =
    let allowed = is_allowed (ranged 8 254 256) in
    both_made train_packet_fields make_train_packet (keys.train_packet d)
    (tag_member (allowed_number allowed) (codes "nid_packet") d >>= λ n. trains.train_numbered.of n d)
    (both_bind (Tagged (codes "nid_packet") (up_to 8 254) d) (Are train_fields)
    (tag_member (number_of (up_to 8 254)) (codes "nid_packet") d) (tag_member (allowed_number allowed) (codes "nid_packet") d)
    (λ n. after_number (codes "nid_packet") (up_to 8 254 n) (keys.train_members n) d) (λ n. trains.train_numbered.of n d)
    (tag_alike (codes "nid_packet") (up_to 8 254) allowed nid_numbers d)
    (λ n k both. rw (sym both.0) (train_after n d both.1.0 both.1.1)))

-- ---- telegrams

keyed_header : Keyed keys.header telegrams.header header_fields
unfolding telegrams.header
keyed_header =
    keyed_named header_fields header_struct.make header_struct.parts header_struct.again
    (keyed_unstated (only_number 1 1 Downlink) 1 (any_number 1 1 ∷ []) ((lit< tt, refl), tt)
    (keyed_then (keyed_key (codes "m_version") (keys.one version_key) version (λ v. version_field v ∷ []) version_alike)
    (keyed_unstated (only_number 1 0 Loop) 0 (any_number 1 0 ∷ []) ((lit< tt, refl), tt)
    (keyed_then (keyed_any (codes "n_pig") 3 refl)
    (keyed_then (keyed_any (codes "n_total") 3 refl)
    (keyed_then (keyed_key (codes "m_dup") (keys.one (up_to 2 2)) duplicate (λ v. dup_field v ∷ []) dup_alike)
    (keyed_then (keyed_any (codes "m_mcount") 8 refl)
    (keyed_then (keyed_identity (codes "nid_c") (codes "nid_bg")) (keyed_flag (codes "q_link"))))))))))

pub read_telegram : Alike (Are telegram_form_fields) keys.telegram (object telegrams.telegram).of
unfolding telegrams.telegram
read_telegram =
    object_alike _ telegrams.telegram telegram_form_fields
    (keyed_named telegram_form_fields (λ p. record { size = p.0; header = p.1.0; packets = p.1.1 })
    (λ t. (t.size, (t.header, t.packets))) (λ _. refl)
    (keyed_then (keyed_key (codes "user_bits") (keys.one size_key) telegrams.size (λ s. any_number 10 (user_bits s) ∷ []) size_alike)
    (keyed_then keyed_header (keyed_packets keys.track_packet tracks.track_packet track_packet_fields read_track_packet))))

-- ---- messages

each_has : {X : Type 0} (f : X → List Field) (test : List Field → Bool) (items : List (List Field)) (xs : List X)
    → Each (Are f) items xs → list_any test items ≡ list_any (λ x. test (f x)) xs
each_has f test [] [] each = refl
each_has f test (fs ∷ items) (x ∷ xs) each =
    ap₂ (λ (a b : Bool). a || b) (ap test each.0.0) (each_has f test items xs each.1)
each_has f test [] (x ∷ xs) each = absurd each
each_has f test (fs ∷ items) [] each = absurd each

track_has : (items : List (List Field)) (xs : List TrackPacket) → Each (Are track_packet_fields) items xs
    → list_any (has_number 15) items ≡ has_authority xs
track_has items xs each =
    each_has track_packet_fields (has_number 15) items xs each
    ∙ same_required (messages.Movement (record { time = 0; ack = false; lrbg = record { country = 0; group = 0 }; packets = xs }))

train_has : (items : List (List Field)) (xs : List TrainPacket) → Each (Are train_packet_fields) items xs
    → list_any (λ p. has_number 0 p || has_number 1 p) items ≡ has_report xs
train_has items xs each =
    each_has train_packet_fields (λ p. has_number 0 p || has_number 1 p) items xs each
    ∙ same_required (messages.Position (record { time = 0; engine = 0; packets = xs }))

abbrev pub movement_fields : Movement → List Field
movement_fields m = drop 2 (message_fields 0 (messages.Movement m))

abbrev pub position_fields : Position → List Field
position_fields m = drop 2 (message_fields 0 (messages.Position m))

pub held_movement : Held (key (codes "t_train") (any_number 32) then key (codes "m_ack") (any_number 1)
    then key (codes "nid_c") (any_number 10) then key (codes "nid_bg") (any_number 14)
    then keys.packets keys.track_packet (list_any (has_number 15))) radio.movement.members movement_fields (λ m. has_authority m.packets)
unfolding radio.movement
held_movement =
    held radio.no_packet (λ m. has_authority m.packets)
    (tested_named movement_fields (λ p. record {
      time = p.0;
      ack = p.1.0;
      lrbg = record { country = p.1.1.0; group = p.1.1.1.0 };
      packets = p.1.1.1.1;
    }) (λ m. (m.time, (m.ack, (m.lrbg.country, (m.lrbg.group, m.packets))))) (λ _. refl)
    radio.no_packet (λ m. has_authority m.packets)
    (tested_then radio.no_packet (λ (p : Bool × (ℕ × (ℕ × List TrackPacket))). has_authority p.1.1.1) (keyed_any (codes "t_train") 32 refl)
    (tested_then radio.no_packet (λ (p : ℕ × (ℕ × List TrackPacket)). has_authority p.1.1) (keyed_flag (codes "m_ack"))
    (tested_then radio.no_packet (λ (p : ℕ × List TrackPacket). has_authority p.1) (keyed_any (codes "nid_c") 10 refl)
    (tested_then radio.no_packet has_authority (keyed_any (codes "nid_bg") 14 refl)
    (tested_packets keys.track_packet tracks.track_packet track_packet_fields (list_any (has_number 15)) has_authority track_has read_track_packet))))))

pub held_position : Held (key (codes "t_train") (any_number 32) then key (codes "nid_engine") (any_number 24)
    then keys.packets keys.train_packet (list_any (λ p. has_number 0 p || has_number 1 p))) radio.position.members position_fields (λ m. has_report m.packets)
unfolding radio.position
held_position =
    held radio.no_packet (λ m. has_report m.packets)
    (tested_named position_fields (λ p. record { time = p.0; engine = p.1.0; packets = p.1.1 })
    (λ m. (m.time, (m.engine, m.packets))) (λ _. refl) radio.no_packet (λ m. has_report m.packets)
    (tested_then radio.no_packet (λ (p : ℕ × List TrainPacket). has_report p.1) (keyed_any (codes "t_train") 32 refl)
    (tested_then radio.no_packet has_report (keyed_any (codes "nid_engine") 24 refl)
    (tested_packets keys.train_packet trains.train_packet train_packet_fields (list_any (λ p. has_number 0 p || has_number 1 p))
    has_report train_has read_train_packet))))

abbrev kind_key : ℕ → Field
kind_key n = allowed_if 8 n (n == 3 || (n == 136))

kind_numbers : (n : ℕ) → is_writable (kind_key n) ≡ any.numbered.allows n
kind_numbers n = grind (arith, nat_tests)

other_kind : (n : ℕ) → is_writable (kind_key n) ≡ true → (n == 3) ≡ false → (n == 136) ≡ true
other_kind n fits other = grind (arith, nat_tests, fits, other)

last_alike : {A X : Type 0} (R : A → X → Type 0) (r : Result A Fault) (s : Result X Fault) (f : Fault) (b : Bool) → b ≡ true
    → Both R r s → Both R r (if b then s else Err f)
last_alike R r s f true is both = both
last_alike R r s f false is both = absurd (false≢true is)

abbrev kinds : Movement ⊎ Position → List Field
kinds m = message_form_fields (any.either_message m)

message_after : (n : ℕ) (d : Data) → is_writable (kind_key n) ≡ true → HasNumber (codes "nid_message") n d
    → Both (Are kinds) (after_number (codes "nid_message") (kind_key n) (keys.message_members n) d) (any.numbered.of n d)
message_after n d fits there =
    let nid : List ℕ = codes "nid_message" in
    either_alike kinds (n == 3) nid (kind_key n) _ _ d _ _
    (λ is. numbered_alike nid n 3 kind_key _ radio.movement movement_fields _ is fits (λ _. refl) held_movement.keyed d there)
    (λ other. let is = other_kind n fits other in
    last_alike (Are (λ m. kinds (inr m))) _ _ _ (n == 136) is
    (numbered_alike nid n 136 kind_key _ radio.position position_fields _ is fits (λ _. refl) held_position.keyed d there))

pub read_message : Alike (Are message_form_fields) keys.message any.message.of
unfolding any.message
read_message d =
    both_made message_form_fields any.either_message (keys.message d)
    (tag_member (allowed_number any.numbered.allows) (codes "nid_message") d >>= λ n. any.numbered.of n d)
    (both_bind (Tagged (codes "nid_message") kind_key d) (Are kinds)
    (tag_member (number_of kind_key) (codes "nid_message") d) (tag_member (allowed_number any.numbered.allows) (codes "nid_message") d)
    (λ n. after_number (codes "nid_message") (kind_key n) (keys.message_members n) d) (λ n. any.numbered.of n d)
    (tag_alike (codes "nid_message") kind_key any.numbered.allows kind_numbers d)
    (λ n k both. rw (sym both.0) (message_after n d both.1.0 both.1.1)))
