-- Which bytes are a message, and what bytes mean.
use Rattle.std.proofs.Common.{◌≡◌, ℕ, ◌≤◌, true, Bool, List, length, Result, Ok, Err, refl, sym, ap, subst, ◌∙◌, ◌⊎◌, inl, inr, arith}
use Rattle.etcs_bits.specs.declared.layout.fault.Fault.{Fault}
use Rattle.etcs_bits.specs.declared.layout.fault.FaultKind.{FaultKind}
use Rattle.etcs_bits.specs.declared.layout.fault.FaultKind.TheVariants.{NoAuthority, NoReport}
use Rattle.etcs_bits.specs.layout.Rows.{Row, Place, IsSpelled}
use Rattle.etcs_bits.specs.layout.Format.{Format}
use Rattle.etcs_bits.specs.layout.Reading.{◌>>=◌, read_rows}
use Rattle.etcs_bits.proofs.BindLemmas.{bind_ok, bind_err, ok_is, pass_ok, pass_err}
use Rattle.etcs_bits.proofs.LayoutLemmas.{rows_again}
use Rattle.etcs_bits.proofs.ReadingLemmas.{read_is_spelled, spelled_is_read, read_is_fault}
use Rattle.etcs_bits.proofs.FaultLemmas.{fault_is_given}
use Rattle.etcs_packet.specs.declared.stop.Stop.TheVariants as stops
use Rattle.etcs_packet.specs.Laws.{HasNoMark}
use Rattle.etcs_packet.specs.Lists.{IsHeaded, IsListFault, Stand}
use Rattle.etcs_packet.specs.Reading.{read_list}
use Rattle.etcs_profile.specs.Track.{track_packet}
use Rattle.etcs_packet.proofs.EndLemmas.{next_within}
use Rattle.etcs_packet.proofs.ItemLemmas.{list_fault_is_read, read_is_list_fault}
use Rattle.etcs_packet.proofs.ListLemmas.{stand_is_read, read_stands}
use Rattle.etcs_packet.proofs.WrittenLemmas.{stand_spelled}
use Rattle.etcs_radio.specs.declared.message.Message.{Message}
use Rattle.etcs_radio.specs.declared.message.Message.TheVariants as messages
use Rattle.etcs_radio.specs.Head.{Head, head}
use Rattle.etcs_radio.specs.Meaning.{complete, movement_message, position_message, read_message_list, read_message_packets, read_message}
use Rattle.etcs_radio.specs.Message.{message_head, PacketsStand, is_complete, beginning, IsMessage, IsIncomplete, IsPacketsFault, IsMessageFault}
use Rattle.etcs_radio.specs.Required.{has_authority, has_report}
use Rattle.etcs_radio.specs.TrainPacket.{train_packet}

pub headed_track : IsHeaded track_packet.fields
headed_track = (refl, refl)

pub headed_train : IsHeaded train_packet.fields
headed_train = (refl, refl)

pub no_track_mark : HasNoMark track_packet.fields
no_track_mark = refl

pub no_train_mark : HasNoMark train_packet.fields
no_train_mark = refl

-- the packets after a head that was read
abbrev pub then_packets : ℕ → List Row × Place → Result Message Fault
then_packets n first = read_message_packets ((head n).of first.0) first.1

pub meant : (bytes : List ℕ) → read_message bytes
    ≡ (read_rows (head (length bytes)).fields (beginning bytes) >>= then_packets (length bytes))
unfolding read_message
meant bytes = refl

-- ---- what is a message is read

by_meant : {X : Type 0} (x : Format X) (has : List X → Bool) (why : FaultKind) (make : List X → Message)
    (xs : List X) (p q : Place) → IsHeaded x.fields → p.at ≤ length p.bits
    → Stand stops.Message x.rows xs p q → has xs ≡ true → read_message_list x has why make p ≡ Ok (make xs)
unfolding read_message_list
by_meant x has why make xs p q headed within stand there =
    let read = stand_is_read x.laid xs stops.Message p q headed within stand in
    rw (read, there) refl

packets_meant : (m : Message) (p q : Place) → p.at ≤ length p.bits → PacketsStand m p q
    → is_complete m ≡ true → read_message_packets (message_head m) p ≡ Ok m
packets_meant (messages.Movement m) p q within stand there =
    by_meant track_packet has_authority NoAuthority (movement_message (m.time, (m.ack, m.lrbg))) m.packets p q headed_track within stand there
packets_meant (messages.Position m) p q within stand there =
    by_meant train_packet has_report NoReport (position_message (m.time, m.engine)) m.packets p q headed_train within stand there

-- a whole head, and then what the packets after it mean
head_then : (h : Head) (bytes : List ℕ) (middle : Place)
    → IsSpelled ((head (length bytes)).rows h) (beginning bytes) middle
    → read_message bytes ≡ read_message_packets h middle
head_then h bytes middle first =
    let n = length bytes in
    let read = spelled_is_read (head n).fields ((head n).rows h) (beginning bytes) middle (omega arith) ((head n).laid.are_rows h) first in
    meant bytes ∙ ap (λ (r : Result (List Row × Place) Fault). r >>= then_packets n) read
    ∙ ap (λ (k : Head). read_message_packets k middle) ((head n).laid.is_record h)

-- the place after a head is among the bits
pub head_within : (h : Head) (bytes : List ℕ) (middle : Place)
    → IsSpelled ((head (length bytes)).rows h) (beginning bytes) middle → middle.at ≤ length middle.bits
head_within h bytes middle first =
    next_within ((head (length bytes)).rows h) (beginning bytes) middle (omega arith) first

pub message_meant : (m : Message) (bytes : List ℕ) → IsMessage m bytes → read_message bytes ≡ Ok m
message_meant m bytes x =
    let inside = head_within (message_head m) bytes x.middle x.first in
    head_then (message_head m) bytes x.middle x.first ∙ packets_meant m x.middle x.end inside x.packets x.complete

-- ---- what is read is a message

-- packets that were read are the packets of the message
record ArePacketsOf (h : Head) (p : Place) (m : Message) : Type 0 where
  pub is_head : h ≡ message_head m
  pub end : Place
  pub stand : PacketsStand m p end
  pub complete : is_complete m ≡ true

-- the required packet was there
complete_is : {X : Type 0} (has : List X → Bool) (why : FaultKind) (read : List X × Place) (xs : List X)
    → complete has why read ≡ Ok xs → (has read.0 ≡ true) × (read.0 ≡ xs)
complete_is has why read xs e =
    pass_ok (has read.0) (record { at = read.1.at; end = length read.1.bits; why = why }) read.0 xs e

-- the packets that were read
record AreReadBy {X : Type 0} (x : Format X) (has : List X → Bool) (make : List X → Message) (p : Place) (m : Message) : Type 0 where
  pub packets : List X
  pub end : Place
  pub stand : Stand stops.Message x.rows packets p end
  pub there : has packets ≡ true
  pub made : make packets ≡ m

by_read : {X : Type 0} (x : Format X) (has : List X → Bool) (why : FaultKind) (make : List X → Message)
    (p : Place) (m : Message) → IsHeaded x.fields → p.at ≤ length p.bits
    → read_message_list x has why make p ≡ Ok m → AreReadBy x has make p m
unfolding read_message_list
by_read x has why make p m headed within e =
    let a = bind_ok (read_list stops.Message x.fields x.of p) (λ read. complete has why read >>= λ packets. Ok (make packets)) m e in
    let b = bind_ok (complete has why a.0) (λ packets. Ok (make packets)) m a.2 in
    let c = complete_is has why a.0 b.0 b.1 in
    record {
      packets = a.0.0;
      end = a.0.1;
      stand = read_stands x.laid a.0.0 stops.Message p a.0.1 headed within a.1;
      there = c.0;
      made = ap make c.1 ∙ ok_is (make b.0) m b.2;
    }

packets_read : (h : Head) (p : Place) (m : Message) → p.at ≤ length p.bits → read_message_packets h p ≡ Ok m
    → ArePacketsOf h p m
packets_read (inl h) p m within e =
    let read = by_read track_packet has_authority NoAuthority (movement_message h) p m headed_track within e in
    let made : ArePacketsOf (inl h) p (movement_message h read.packets) = record { is_head = refl; end = read.end; stand = read.stand; complete = read.there } in
    subst (λ (k : Message). ArePacketsOf (inl h) p k) read.made made
packets_read (inr h) p m within e =
    let read = by_read train_packet has_report NoReport (position_message h) p m headed_train within e in
    let made : ArePacketsOf (inr h) p (position_message h read.packets) = record { is_head = refl; end = read.end; stand = read.stand; complete = read.there } in
    subst (λ (k : Message). ArePacketsOf (inr h) p k) read.made made

pub means_message : (m : Message) (bytes : List ℕ) → read_message bytes ≡ Ok m → IsMessage m bytes
means_message m bytes e =
    let n = length bytes in
    let a = bind_ok (read_rows (head n).fields (beginning bytes)) (then_packets n) m (sym (meant bytes) ∙ e) in
    let here = read_is_spelled (head n).fields (beginning bytes) a.0 (omega arith) a.1 in
    let again = rows_again (head n) a.0.0 here.whole here.spelled.allowed in
    let inside = next_within a.0.0 (beginning bytes) a.0.1 (omega arith) here.spelled in
    let rest = packets_read ((head n).of a.0.0) a.0.1 m inside a.2 in
    let rows : a.0.0 ≡ (head n).rows (message_head m) = sym again ∙ ap (head n).rows rest.is_head in
    record {
      middle = a.0.1;
      end = rest.end;
      first = subst (λ (r : List Row). IsSpelled r (beginning bytes) a.0.1) rows here.spelled;
      packets = rest.stand;
      complete = rest.complete;
    }

-- ---- faults

-- packets end among the same bits
pub stand_bits : {X : Type 0} (rows : X → List Row) (xs : List X) (p q : Place)
    → Stand stops.Message rows xs p q → q.bits ≡ p.bits
stand_bits rows xs p q stand = (stand_spelled rows xs stops.Message p q stand).spelled.stands.same

-- packets without the required one fail
incomplete_fails : {X : Type 0} (x : Format X) (has : List X → Bool) (why : FaultKind) (make : List X → Message)
    (p : Place) (f : Fault) → IsHeaded x.fields → p.at ≤ length p.bits → IsIncomplete x.rows has why p f
    → read_message_list x has why make p ≡ Err f
unfolding read_message_list
incomplete_fails x has why make p f headed within t =
    let read = stand_is_read x.laid t.packets stops.Message p t.end headed within t.stand in
    let bits = stand_bits x.rows t.packets p t.end t.stand in
    rw (read, t.incomplete)
    (ap (λ (bs : List Bool). Err (record { at = t.end.at; end = length bs; why = why })) bits ∙ ap Err (sym t.is_fault))

list_fails : {X : Type 0} (x : Format X) (has : List X → Bool) (why : FaultKind) (make : List X → Message)
    (p : Place) (f : Fault) → IsHeaded x.fields → p.at ≤ length p.bits → IsListFault stops.Message x.fields p f
    → read_message_list x has why make p ≡ Err f
unfolding read_message_list
list_fails x has why make p f headed within t =
    rw (list_fault_is_read x.of stops.Message x.fields p f headed within t) refl

packets_fail : (h : Head) (p : Place) (f : Fault) → p.at ≤ length p.bits → IsPacketsFault h p f
    → read_message_packets h p ≡ Err f
packets_fail (inl h) p f within (inl t) =
    list_fails track_packet has_authority NoAuthority (movement_message h) p f headed_track within t
packets_fail (inl h) p f within (inr t) =
    incomplete_fails track_packet has_authority NoAuthority (movement_message h) p f headed_track within t
packets_fail (inr h) p f within (inl t) =
    list_fails train_packet has_report NoReport (position_message h) p f headed_train within t
packets_fail (inr h) p f within (inr t) =
    incomplete_fails train_packet has_report NoReport (position_message h) p f headed_train within t

pub fault_meant : (bytes : List ℕ) (f : Fault) → IsMessageFault bytes f → read_message bytes ≡ Err f
fault_meant bytes f (inl t) =
    let read = fault_is_given (head (length bytes)).fields (beginning bytes) f (omega arith) t in
    meant bytes ∙ ap (λ (r : Result (List Row × Place) Fault). r >>= then_packets (length bytes)) read
fault_meant bytes f (inr t) =
    head_then t.h bytes t.middle t.first
    ∙ packets_fail t.h t.middle f (head_within t.h bytes t.middle t.first) t.is_fault

-- a step that only builds cannot fail
only_complete : {X : Type 0} (r : Result (List X) Fault) (make : List X → Message) (f : Fault)
    → (r >>= λ packets. Ok (make packets)) ≡ Err f → r ≡ Err f
only_complete (Ok xs) make f e = absurd cc
only_complete (Err g) make f e = let same : g ≡ f = cc in ap Err same

fails_packets : {X : Type 0} (x : Format X) (has : List X → Bool) (why : FaultKind) (make : List X → Message)
    (p : Place) (f : Fault) → IsHeaded x.fields → p.at ≤ length p.bits → read_message_list x has why make p ≡ Err f
    → IsListFault stops.Message x.fields p f ⊎ IsIncomplete x.rows has why p f
unfolding read_message_list
fails_packets x has why make p f headed within e =
    elim (bind_err (read_list stops.Message x.fields x.of p) (λ read. complete has why read >>= λ packets. Ok (make packets)) f e) [
      | inl t ↦ inl (read_is_list_fault x.of stops.Message x.fields p f within t)
      | inr a ↦
          let failed = only_complete (complete has why a.0) make f a.2 in
          let b = pass_err (has a.0.0) (record { at = a.0.1.at; end = length a.0.1.bits; why = why }) f a.0.0 failed in
          let stand = read_stands x.laid a.0.0 stops.Message p a.0.1 headed within a.1 in
          let bits = stand_bits x.rows a.0.0 p a.0.1 stand in
          inr (record {
            packets = a.0.0;
            end = a.0.1;
            stand = stand;
            incomplete = b.0;
            is_fault = sym b.1 ∙ ap (λ (bs : List Bool). record { at = a.0.1.at; end = length bs; why = why }) bits;
          })
    ]

packets_fault : (h : Head) (p : Place) (f : Fault) → p.at ≤ length p.bits → read_message_packets h p ≡ Err f
    → IsPacketsFault h p f
packets_fault (inl h) p f within e =
    fails_packets track_packet has_authority NoAuthority (movement_message h) p f headed_track within e
packets_fault (inr h) p f within e =
    fails_packets train_packet has_report NoReport (position_message h) p f headed_train within e

pub meant_fault : (bytes : List ℕ) (f : Fault) → read_message bytes ≡ Err f → IsMessageFault bytes f
meant_fault bytes f e =
    elim (bind_err (read_rows (head (length bytes)).fields (beginning bytes)) (then_packets (length bytes)) f (sym (meant bytes) ∙ e)) [
      | inl t ↦ inl (read_is_fault (head (length bytes)).fields (beginning bytes) f (omega arith) t)
      | inr a ↦
          let n = length bytes in
          let here = read_is_spelled (head n).fields (beginning bytes) a.0 (omega arith) a.1 in
          let again = rows_again (head n) a.0.0 here.whole here.spelled.allowed in
          let inside = next_within a.0.0 (beginning bytes) a.0.1 (omega arith) here.spelled in
          inr (record {
            h = (head n).of a.0.0;
            middle = a.0.1;
            first = subst (λ (r : List Row). IsSpelled r (beginning bytes) a.0.1) (sym again) here.spelled;
            is_fault = packets_fault ((head n).of a.0.0) a.0.1 f inside a.2;
          })
    ]
