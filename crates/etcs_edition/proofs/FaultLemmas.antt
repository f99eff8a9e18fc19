-- First faults by the edition are those of the codecs.
use Rattle.std.proofs.Common.{◌≡◌, ◌↔◌, ℕ, ◌≤◌, ◌⊎◌, ◌==◌, Bool, true, List, [], ◌∷◌, length, take, Option, Some, None, Result, Ok, Err, refl, sym, ap, subst, ◌∙◌, arith, inl, inr}
use Rattle.std.specs.Prelude.{◌||◌, IsSome}
use Rattle.etcs_bits.specs.declared.variables.identity.Identity.{Identity}
use Rattle.std.specs.List.{list_any}
use Rattle.etcs_bits.specs.declared.layout.fault.Fault.{Fault}
use Rattle.etcs_bits.specs.declared.layout.fault.FaultKind.{FaultKind}
use Rattle.etcs_bits.specs.declared.layout.fault.FaultKind.TheVariants.{NoAuthority, NoReport}
use Rattle.etcs_bits.specs.bits.Number.{num, bits_of_bytes as working_bits}
use Rattle.etcs_bits.specs.layout.Rows.{Variable, Row, Place, IsSpelled, alone, join}
use Rattle.etcs_bits.specs.layout.Fields.{Fields, nothing, field, ◌▹◌, sized, AreRowsOf}
use Rattle.etcs_bits.specs.layout.Format.{Format}
use Rattle.etcs_bits.specs.layout.Found.{row_number}
use Rattle.etcs_bits.specs.layout.Reading.{forward, read_rows}
use Rattle.etcs_bits.proofs.FaultLemmas.{fault_is_given}
use Rattle.etcs_bits.proofs.ReadingLemmas.{read_is_spelled, spelled_is_read, read_is_fault}
use Rattle.etcs_bits.proofs.StandLemmas.{stands_parts, standing_number}
use Rattle.etcs_packet.specs.declared.stop.Stop.{Stop}
use Rattle.etcs_packet.specs.declared.stop.Stop.TheVariants as stops
use Rattle.etcs_packet.specs.Lists.{IsHeaded, Follow, IsListFault, Stand, ends}
use Rattle.etcs_packet.specs.Whole.{start}
use Rattle.etcs_packet.proofs.EndLemmas.{next_within}
use Rattle.etcs_packet.proofs.FollowLemmas.{follow_within}
use Rattle.etcs_profile.specs.declared.track.TrackPacket.{TrackPacket}
use Rattle.etcs_profile.specs.declared.track.TrackPacket.TheVariants as packets
use Rattle.etcs_profile.specs.Authority.{AuthorityValue, parts_by_main}
use Rattle.etcs_profile.specs.Track.{track_packet, track_number, authority_number, track_numbered, all_but_the_end, numbered_authority}
use Rattle.etcs_bits.specs.layout.Format.{chosen}
use Rattle.etcs_profile.specs.PacketNumbers.{nid_track}
use Rattle.etcs_telegram.specs.Header.{header}
use Rattle.etcs_telegram.specs.Record.{Telegram}
use Rattle.etcs_telegram.specs.Meaning.{short_or_long, read_telegram}
use Rattle.etcs_telegram.proofs.LawLemmas as telegrams
use Rattle.etcs_radio.specs.Meaning.{read_message}
use Rattle.etcs_radio.proofs.MessageLemmas as messages
use Rattle.etcs_telegram.specs.declared.header.Header.{Header}
use Rattle.etcs_telegram.specs.Sizes.{size_from_bits}
use Rattle.etcs_telegram.proofs.TelegramLemmas.{count_by}
use Rattle.etcs_packet.specs.Whole.{HeadAndListStand}
use Rattle.etcs_telegram.specs.Telegram.{AreUserBits, IsNoTelegram, IsTelegram as IsDecodedTelegram, IsTelegramFault as IsDecodedTelegramFault}
use Rattle.etcs_radio.specs.declared.report.Report.{Report}
use Rattle.etcs_radio.specs.declared.train_packet.TrainPacket.{TrainPacket}
use Rattle.etcs_radio.specs.declared.train_packet.TrainPacket.TheVariants as train_packets
use Rattle.etcs_radio.specs.Head.{Head, head, head_numbered, nid_message}
use Rattle.etcs_radio.specs.Message.{IsNoMessage, IsMessageFault as IsDecodedMessageFault, IsIncomplete, IsPacketsFault, beginning}
use Rattle.etcs_radio.specs.RawTrain.{other_of}
use Rattle.etcs_radio.specs.Report.{report_numbered, parts_by_previous}
use Rattle.etcs_radio.specs.Required.{is_authority}
use Rattle.etcs_radio.specs.TrainPacket.{train_packet, is_report, numbered_report, train_numbered, all_but_the_end as all_but_the_end_of_trains}
use Rattle.etcs_radio.proofs.MessageLemmas.{headed_track, headed_train}
use Rattle.etcs_edition.specs.Wire.{bits_of_bytes}
use Rattle.etcs_edition.specs.Tables.{message_table}
use Rattle.etcs_edition.specs.Faults.{number_here, after, Pass, IsPacketFault, IsLacking, IsTelegramFault, AreLater, IsMessageFault, NoTelegramBegins, NoMessageBegins}
use Rattle.etcs_edition.proofs.AfterLemmas.{Like, landing}
use Rattle.etcs_edition.proofs.TableLemmas.{like_header, like_track, like_train, like_head}
use Rattle.etcs_edition.proofs.MessageLemmas.{one_of_two, is_other, message_read, read_message as read_message_of}
use Rattle.etcs_edition.proofs.TelegramLemmas.{telegram_read, read_telegram as read_telegram_of}
use Rattle.etcs_edition.proofs.TextLemmas.{same_bytes}

-- ---- one record

-- reading that ended gave something
landed : {A : Type 0} (r : Result (A × Place) Fault) (m : Place) → landing r ≡ Ok m → (x : A) × (r ≡ Ok (x, m))
landed (Ok x) m is = let same : x.1 ≡ m = cc in (x.0, ap (λ q. Ok (x.0, q)) same)
landed (Err f) m is = absurd cc

failed : {A : Type 0} (r : Result (A × Place) Fault) (f : Fault) → landing r ≡ Err f → r ≡ Err f
failed (Ok x) f is = absurd cc
failed (Err g) f is = let same : g ≡ f = cc in ap Err same

-- rows of fields that are spelled from one place up to another
record AreHere (fields : Fields) (from to : Place) : Type 0 where
  pub rows : List Row
  pub whole : AreRowsOf fields rows
  pub spelled : IsSpelled rows from to

goes_past : {table fields : Fields} → Like table fields → (rows : List Row) (p m : Place) → p.at ≤ length p.bits
    → AreRowsOf fields rows → IsSpelled rows p m → after table p ≡ Ok m
goes_past {fields = fields} like rows p m within whole spelled =
    like.same p ∙ ap landing (spelled_is_read fields rows p m within whole spelled)

are_here : {table fields : Fields} → Like table fields → (p m : Place) → p.at ≤ length p.bits
    → after table p ≡ Ok m → AreHere fields p m
are_here {fields = fields} like p m within past =
    let read = landed (read_rows fields p) m (sym (like.same p) ∙ past) in
    let is = read_is_spelled fields p (read.0, m) within read.1 in
    record { rows = read.0; whole = is.whole; spelled = is.spelled }

-- the number of the first row stands at the place
first_number : (x : Variable) (next : ℕ → Fields) (rows : List Row) (p m : Place)
    → AreRowsOf (field x next) rows → IsSpelled rows p m → number_here x.width p ≡ row_number 0 rows
first_number x next rows p m (n, more, e, w) spelled =
    let here = subst (λ (r : List Row). IsSpelled r p m) e spelled in
    let parts = stands_parts (num x.width n) (join more) p m here.stands in
    standing_number x.width n p (forward p (length (num x.width n))) here.allowed.0.0 parts.0
    ∙ sym (ap (row_number 0) e)

packet_number : (fields : Fields) (rows : List Row) (p m : Place) → IsHeaded fields → AreRowsOf fields rows
    → IsSpelled rows p m → number_here 8 p ≡ row_number 0 rows
packet_number (field x next) rows p m headed whole spelled =
    ap (λ (w : ℕ). number_here w p) (sym headed.0) ∙ first_number x next rows p m whole spelled
packet_number nothing rows p m headed whole spelled = absurd headed
packet_number (a ▹ b) rows p m headed whole spelled = absurd headed
packet_number (sized before body) rows p m headed whole spelled = absurd headed

-- ---- lists of packets that have a fault

module _ {table fields : Fields} (like : Like table fields) (stop : Stop) where
  follow_passes : (whole : List (List Row)) (p q : Place) → p.at ≤ length p.bits → Follow stop fields whole p q
      → (numbers : List ℕ) × Pass stop table numbers p q
  follow_passes [] p q within there = ([], there)
  follow_passes (rows ∷ whole) p q within (goes, (m, are, spelled, rest)) =
      let later = follow_passes whole m q (next_within rows p m within spelled) rest in
      (number_here 8 p ∷ later.0, (goes, refl, (m, goes_past like rows p m within are spelled, later.1)))

  pass_follows : (numbers : List ℕ) (p q : Place) → p.at ≤ length p.bits → Pass stop table numbers p q
      → (whole : List (List Row)) × Follow stop fields whole p q
  pass_follows [] p q within there = ([], there)
  pass_follows (n ∷ numbers) p q within (goes, is, (m, past, rest)) =
      let here = are_here like p m within past in
      let later = pass_follows numbers m q (next_within here.rows p m within here.spelled) rest in
      (here.rows ∷ later.0, (goes, (m, here.whole, here.spelled, later.1)))

  pub packet_fault : (p : Place) (f : Fault) → p.at ≤ length p.bits → IsListFault stop fields p f
      → IsPacketFault stop table p f
  packet_fault p f within t =
      let passed = follow_passes t.whole p t.reached within t.follow in
      let inside = follow_within stop fields t.whole p t.reached within t.follow in
      record {
        numbers = passed.0;
        reached = t.reached;
        passed = passed.1;
        goes_on = t.goes_on;
        is_fault =
            like.same t.reached ∙ ap landing (fault_is_given fields t.reached f inside t.is_fault);
      }

  pub fault_of_list : (p : Place) (f : Fault) → p.at ≤ length p.bits → IsPacketFault stop table p f
      → IsListFault stop fields p f
  fault_of_list p f within t =
      let follow = pass_follows t.numbers p t.reached within t.passed in
      let inside = follow_within stop fields follow.0 p t.reached within follow.1 in
      let read = failed (read_rows fields t.reached) f (sym (like.same t.reached) ∙ t.is_fault) in
      record {
        whole = follow.0;
        reached = t.reached;
        follow = follow.1;
        goes_on = t.goes_on;
        is_fault = read_is_fault fields t.reached f inside read;
      }

-- ---- lists of packets that lack one

-- packets pass with these numbers, one of which is required if and only if one of the packets is
record ArePassed {X : Type 0} (has : X → Bool) (required : ℕ → Bool) (table : Fields) (xs : List X) (from to : Place) : Type 0 where
  pub numbers : List ℕ
  pub passed : Pass stops.Message table numbers from to
  pub over : ends stops.Message to ≡ true
  pub same : list_any required numbers ≡ list_any has xs

record DoStand {X : Type 0} (has : X → Bool) (required : ℕ → Bool) (rows : X → List Row) (numbers : List ℕ) (from to : Place) : Type 0 where
  pub xs : List X
  pub stand : Stand stops.Message rows xs from to
  pub same : list_any has xs ≡ list_any required numbers

module _ {X : Type 0} {table : Fields} (x : Format X) (like : Like table x.fields) (headed : IsHeaded x.fields)
    (has : X → Bool) (required : ℕ → Bool) (is_required : (v : X) → has v ≡ required (row_number 0 (x.rows v))) where
  stand_passes : (xs : List X) (p q : Place) → p.at ≤ length p.bits → Stand stops.Message x.rows xs p q
      → ArePassed has required table xs p q
  stand_passes [] p q within (over, there) =
      record { numbers = []; passed = there; over = ap (ends stops.Message) there ∙ over; same = refl }
  stand_passes (v ∷ xs) p q within (goes, (m, spelled, rest)) =
      let whole = x.laid.are_rows v in
      let later = stand_passes xs m q (next_within (x.rows v) p m within spelled) rest in
      let number = packet_number x.fields (x.rows v) p m headed whole spelled in
      record {
        numbers = number_here 8 p ∷ later.numbers;
        passed = (goes, refl, (m, goes_past like (x.rows v) p m within whole spelled, later.passed));
        over = later.over;
        same = rw (number, sym (is_required v), later.same) refl;
      }

  pass_stands : (numbers : List ℕ) (p q : Place) → p.at ≤ length p.bits → Pass stops.Message table numbers p q
      → ends stops.Message q ≡ true → DoStand has required x.rows numbers p q
  pass_stands [] p q within there over =
      record { xs = []; stand = (ap (ends stops.Message) (sym there) ∙ over, there); same = refl }
  pass_stands (n ∷ numbers) p q within (goes, is, (m, past, rest)) over =
      let here = are_here like p m within past in
      let v = x.laid.has_record here.rows here.whole here.spelled.allowed in
      let later = pass_stands numbers m q (next_within here.rows p m within here.spelled) rest over in
      let spelled = subst (λ (r : List Row). IsSpelled r p m) (sym v.1) here.spelled in
      let number : row_number 0 (x.rows v.0) ≡ n =
      sym (packet_number x.fields (x.rows v.0) p m headed (x.laid.are_rows v.0) spelled) ∙ is in
      record {
        xs = v.0 ∷ later.xs;
        stand = (goes, (m, spelled, later.stand));
        same = rw (is_required v.0, number, later.same) refl;
      }

  pub lacking : (why : FaultKind) (p : Place) (f : Fault) → p.at ≤ length p.bits
      → IsIncomplete x.rows (λ xs. list_any has xs) why p f → IsLacking table required why p f
  lacking why p f within t =
      let passed = stand_passes t.packets p t.end within t.stand in
      record {
        numbers = passed.numbers;
        end = t.end;
        passed = passed.passed;
        over = passed.over;
        lacking = passed.same ∙ t.incomplete;
        is_fault = t.is_fault;
      }

  pub incomplete : (why : FaultKind) (p : Place) (f : Fault) → p.at ≤ length p.bits
      → IsLacking table required why p f → IsIncomplete x.rows (λ xs. list_any has xs) why p f
  incomplete why p f within t =
      let stand = pass_stands t.numbers p t.end within t.passed t.over in
      record {
        packets = stand.xs;
        end = t.end;
        stand = stand.stand;
        incomplete = stand.same ∙ t.lacking;
        is_fault = t.is_fault;
      }

-- ---- the number of a packet

authority_is : (main : Option ℕ) (a : AuthorityValue)
    → authority_number main
    ≡ row_number 0 ((chosen nid_track track_numbered all_but_the_end).rows (numbered_authority (parts_by_main main a)))
unfolding alone
authority_is (Some v) a = refl
authority_is None a = refl

track_number_is : (p : TrackPacket) → track_number p ≡ row_number 0 (track_packet.rows p)
unfolding alone
track_number_is (packets.Cover p) = refl
track_number_is (packets.Linking p) = refl
track_number_is (packets.Authority a) = authority_is a.main a
track_number_is (packets.Gradient p) = refl
track_number_is (packets.Speed p) = refl
track_number_is (packets.Transition p) = refl
track_number_is (packets.Raw p) = refl

authority_is_15 : (p : TrackPacket) → is_authority p ≡ (row_number 0 (track_packet.rows p) == 15)
authority_is_15 p = ap (λ (n : ℕ). n == 15) (track_number_is p)

report_is : (previous : Option Identity) (r : Report)
    → true ≡ (row_number 0 ((chosen nid_track train_numbered all_but_the_end_of_trains).rows (numbered_report (parts_by_previous previous r))) == 0
    || (row_number 0 ((chosen nid_track train_numbered all_but_the_end_of_trains).rows (numbered_report (parts_by_previous previous r))) == 1))
unfolding alone
report_is None r = refl
report_is (Some previous) r = refl

report_is_0_or_1 : (p : TrainPacket)
    → is_report p ≡ (row_number 0 (train_packet.rows p) == 0 || (row_number 0 (train_packet.rows p) == 1))
unfolding alone
report_is_0_or_1 (train_packets.Report r) = report_is r.previous r
report_is_0_or_1 (train_packets.Raw p) =
    is_other (report_numbered.allows p.number) (p.number == 255) (other_of p.number (length p.body) p.kept)
    ∙ one_of_two p.number

-- ---- telegrams

pub telegram_fault : (bits : List Bool) (f : Fault) → IsDecodedTelegramFault bits f → IsTelegramFault bits f
telegram_fault bits f (inl t) =
    inl (like_header.same (start bits) ∙ ap landing (fault_is_given header.fields (start bits) f (omega arith) t))
telegram_fault bits f (inr t) =
    let inside = next_within t.rows (start bits) t.middle (omega arith) t.first in
    inr (
      t.middle,
      goes_past like_header t.rows (start bits) t.middle (omega arith) t.whole t.first,
      packet_fault like_track stops.Telegram t.middle f inside t.is_fault,
    )

pub fault_of_telegram : (bits : List Bool) (f : Fault) → IsTelegramFault bits f → IsDecodedTelegramFault bits f
fault_of_telegram bits f (inl t) =
    let read = failed (read_rows header.fields (start bits)) f (sym (like_header.same (start bits)) ∙ t) in
    inl (read_is_fault header.fields (start bits) f (omega arith) read)
fault_of_telegram bits f (inr (m, past, t)) =
    let here = are_here like_header (start bits) m (omega arith) past in
    let inside = next_within here.rows (start bits) m (omega arith) here.spelled in
    inr (record {
      rows = here.rows;
      middle = m;
      whole = here.whole;
      first = here.spelled;
      is_fault = fault_of_list like_track stops.Telegram m f inside t;
    })

-- the fault of what the bits mean, as a function of them
pub telegram_fault_is_read : (bits : List Bool) (f : Fault) → IsTelegramFault bits f ↔ (read_telegram bits ≡ Err f)
telegram_fault_is_read bits f =
    (λ t. telegrams.fault_meant bits f (fault_of_telegram bits f t), λ e. telegram_fault bits f (telegrams.meant_fault bits f e))

-- ---- messages

later_fault : (count : ℕ) (h : Head) (m : Place) (f : Fault) → m.at ≤ length m.bits → IsPacketsFault h m f
    → AreLater (row_number 0 ((head count).rows h) == 3) m f
unfolding alone
later_fault count (inl h) m f within (inl t) = inl (packet_fault like_track stops.Message m f within t)
later_fault count (inl h) m f within (inr t) =
    inr (lacking track_packet like_track headed_track is_authority (λ n. n == 15) authority_is_15 NoAuthority m f within t)
later_fault count (inr h) m f within (inl t) = inl (packet_fault like_train stops.Message m f within t)
later_fault count (inr h) m f within (inr t) =
    inr (lacking train_packet like_train headed_train is_report (λ n. n == 0 || (n == 1)) report_is_0_or_1 NoReport m f within t)

fault_of_packets : (count : ℕ) (h : Head) (m : Place) (f : Fault) → m.at ≤ length m.bits
    → AreLater (row_number 0 ((head count).rows h) == 3) m f → IsPacketsFault h m f
unfolding alone
fault_of_packets count (inl h) m f within (inl t) = inl (fault_of_list like_track stops.Message m f within t)
fault_of_packets count (inl h) m f within (inr t) =
    inr (incomplete track_packet like_track headed_track is_authority (λ n. n == 15) authority_is_15 NoAuthority m f within t)
fault_of_packets count (inr h) m f within (inl t) = inl (fault_of_list like_train stops.Message m f within t)
fault_of_packets count (inr h) m f within (inr t) =
    inr (incomplete train_packet like_train headed_train is_report (λ n. n == 0 || (n == 1)) report_is_0_or_1 NoReport m f within t)

-- the first fault of a message of so many bytes, by its bits
abbrev IsFaultOf : ℕ → List Bool → Fault → Type 0
IsFaultOf count bits f =
    (after (message_table count) (start bits) ≡ Err f)
    ⊎ ((m : Place) × (after (message_table count) (start bits) ≡ Ok m)
    × AreLater (number_here 8 (start bits) == 3) m f)

kind_number : (count : ℕ) (h : Head) (p m : Place) → IsSpelled ((head count).rows h) p m
    → number_here 8 p ≡ row_number 0 ((head count).rows h)
kind_number count h p m spelled =
    first_number nid_message (head_numbered count).next ((head count).rows h) p m ((head count).laid.are_rows h) spelled

message_bits_fault : (bytes : List ℕ) (f : Fault) → IsDecodedMessageFault bytes f
    → IsFaultOf (length bytes) (working_bits bytes) f
message_bits_fault bytes f (inl t) =
    let p = beginning bytes in
    inl ((like_head (length bytes)).same p ∙ ap landing (fault_is_given (head (length bytes)).fields p f (omega arith) t))
message_bits_fault bytes f (inr t) =
    let count = length bytes in
    let p = beginning bytes in
    let rows = (head count).rows t.h in
    let inside = next_within rows p t.middle (omega arith) t.first in
    let number = kind_number count t.h p t.middle t.first in
    inr (
      t.middle,
      goes_past (like_head count) rows p t.middle (omega arith) ((head count).laid.are_rows t.h) t.first,
      subst (λ (n : ℕ). AreLater (n == 3) t.middle f) (sym number) (later_fault count t.h t.middle f inside t.is_fault),
    )

bits_fault_of_message : (bytes : List ℕ) (f : Fault) → IsFaultOf (length bytes) (working_bits bytes) f
    → IsDecodedMessageFault bytes f
bits_fault_of_message bytes f (inl t) =
    let p = beginning bytes in
    let read = failed (read_rows (head (length bytes)).fields p) f (sym ((like_head (length bytes)).same p) ∙ t) in
    inl (read_is_fault (head (length bytes)).fields p f (omega arith) read)
bits_fault_of_message bytes f (inr (m, past, t)) =
    let count = length bytes in
    let p = beginning bytes in
    let here = are_here (like_head count) p m (omega arith) past in
    let inside = next_within here.rows p m (omega arith) here.spelled in
    let h = (head count).laid.has_record here.rows here.whole here.spelled.allowed in
    let spelled = subst (λ (r : List Row). IsSpelled r p m) (sym h.1) here.spelled in
    let number = kind_number count h.0 p m spelled in
    inr (record {
      h = h.0;
      middle = m;
      first = spelled;
      is_fault = fault_of_packets count h.0 m f inside (subst (λ (n : ℕ). AreLater (n == 3) m f) number t);
    })

pub message_fault : (bytes : List ℕ) (f : Fault) → IsDecodedMessageFault bytes f → IsMessageFault bytes f
message_fault bytes f t =
    subst (λ (bits : List Bool). IsFaultOf (length bytes) bits f) (same_bytes bytes) (message_bits_fault bytes f t)

pub fault_of_message : (bytes : List ℕ) (f : Fault) → IsMessageFault bytes f → IsDecodedMessageFault bytes f
fault_of_message bytes f t =
    bits_fault_of_message bytes f
    (subst (λ (bits : List Bool). IsFaultOf (length bytes) bits f) (sym (same_bytes bytes)) t)

-- the fault of what the bytes mean, as a function of them
pub message_fault_is_read : (bytes : List ℕ) (f : Fault) → IsMessageFault bytes f ↔ (read_message bytes ≡ Err f)
message_fault_is_read bytes f =
    (λ t. messages.fault_meant bytes f (fault_of_message bytes f t), λ e. message_fault bytes f (messages.meant_fault bytes f e))

-- ---- what decides a fault

-- 210 or 830 bits at whose beginning a header and packets stand are a telegram
stand_telegram : (bits : List Bool) (h : Header) (xs : List TrackPacket) (to : Place) → AreUserBits bits
    → HeadAndListStand stops.Telegram header.rows track_packet.rows h xs (start bits) to
    → IsDecodedTelegram (record { size = short_or_long (length bits); header = h; packets = xs }) bits
stand_telegram bits h xs to count whole =
    record { count = count_by (length bits) count; begins = record { end = to; whole = whole } }

pub none_begins : (bits : List Bool) (f : Fault) → AreUserBits bits → NoTelegramBegins bits f → IsNoTelegram bits f
none_begins bits f count none = λ others length_is same h xs to whole.
    let counts = subst (λ (n : ℕ). IsSome (size_from_bits n)) (sym length_is) count in
    let t : Telegram = record { size = short_or_long (length others); header = h; packets = xs } in
    none others length_is same t (read_telegram_of t others (stand_telegram others h xs to counts whole))

pub begins_none : (bits : List Bool) (f : Fault) → IsNoTelegram bits f → NoTelegramBegins bits f
begins_none bits f none = λ others length_is same t is.
    let begins = (telegram_read t others is).begins in
    none others length_is same t.header t.packets begins.end begins.whole

same_front : (bytes others : List ℕ) (n : ℕ) → take n (bits_of_bytes others) ≡ take n (bits_of_bytes bytes)
    → take n (working_bits others) ≡ take n (working_bits bytes)
same_front bytes others n same = ap (take n) (same_bytes others) ∙ same ∙ sym (ap (take n) (same_bytes bytes))

front_same : (bytes others : List ℕ) (n : ℕ) → take n (working_bits others) ≡ take n (working_bits bytes)
    → take n (bits_of_bytes others) ≡ take n (bits_of_bytes bytes)
front_same bytes others n same = sym (ap (take n) (same_bytes others)) ∙ same ∙ ap (take n) (same_bytes bytes)

pub no_message_begins : (bytes : List ℕ) (f : Fault) → NoMessageBegins bytes f → IsNoMessage bytes f
no_message_begins bytes f none = λ others length_is same m is.
    none others length_is (front_same bytes others f.end same) m (read_message_of m others is)

pub begins_no_message : (bytes : List ℕ) (f : Fault) → IsNoMessage bytes f → NoMessageBegins bytes f
begins_no_message bytes f none = λ others length_is same m is.
    none others length_is (same_front bytes others f.end same) m (message_read m others is)
