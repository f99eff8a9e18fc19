-- If bytes have a fault, no bytes of the same number with the same front are a message.
use Rattle.std.proofs.Common.{◌≡◌, ℕ, ◌≤◌, Bool, List, length, take, Result, Err, sym, ap, subst, ◌∙◌, inl, inr, arith}
use Rattle.std.proofs.lemmas.List.{take_all}
use Rattle.etcs_bits.specs.declared.layout.fault.Fault.{Fault}
use Rattle.etcs_bits.specs.declared.layout.fault.FaultKind.{FaultKind}
use Rattle.etcs_bits.specs.bits.Number.{bits_of_bytes}
use Rattle.etcs_bits.specs.layout.Rows.{Row, Place, join, IsSpelled}
use Rattle.etcs_bits.specs.layout.Fields.{Fields}
use Rattle.etcs_bits.specs.layout.Fault.{IsFault}
use Rattle.etcs_bits.specs.layout.Reading.{◌>>=◌, read_rows}
use Rattle.etcs_bits.proofs.NumberLemmas.{length-bits_of_bytes}
use Rattle.etcs_bits.proofs.StandLemmas.{place_in, stands_moved}
use Rattle.etcs_bits.proofs.FaultLemmas.{fault_stays}
use Rattle.etcs_packet.specs.declared.stop.Stop.TheVariants as stops
use Rattle.etcs_packet.specs.Lists.{IsHeaded, IsListFault}
use Rattle.etcs_profile.specs.Track.{track_packet}
use Rattle.etcs_packet.specs.Whole.{start}
use Rattle.etcs_packet.proofs.EndLemmas.{fault_past}
use Rattle.etcs_packet.proofs.FollowLemmas.{follow_forward, follow_within, list_fault_stays}
use Rattle.etcs_radio.specs.declared.message.Message.{Message}
use Rattle.etcs_radio.specs.Head.{Head, head}
use Rattle.etcs_radio.specs.Meaning.{read_message}
use Rattle.etcs_radio.specs.Message.{beginning, IsIncomplete, IsPacketsFault, IsMessageFault, IsNoMessage}
use Rattle.etcs_radio.specs.TrainPacket.{train_packet}
use Rattle.etcs_radio.proofs.MessageLemmas.{headed_track, headed_train, then_packets, meant, message_meant, fault_meant, head_within}

-- a list's fault ends past the list's beginning
list_past : (item : Fields) (p : Place) (f : Fault) → IsHeaded item → p.at ≤ length p.bits
    → IsListFault stops.Message item p f → p.at ≤ f.end
list_past item p f headed within t =
    let inside = follow_within stops.Message item t.whole p t.reached within t.follow in
    omega (arith, follow_forward stops.Message item t.whole p t.reached t.follow, (fault_past item t.reached f headed inside t.is_fault).0)

-- bytes mean what their bits and their number mean
meaning : ℕ → List Bool → Result Message Fault
meaning n bits = read_rows (head n).fields (start bits) >>= then_packets n

same_meaning : (bytes others : List ℕ) → length others ≡ length bytes
    → bits_of_bytes others ≡ bits_of_bytes bytes → read_message others ≡ read_message bytes
same_meaning bytes others len same =
    meant others
    ∙ ap (λ (n : ℕ). read_rows (head n).fields (start (bits_of_bytes others)) >>= then_packets n) len
    ∙ ap (λ (bits : List Bool). read_rows (head (length bytes)).fields (start bits) >>= then_packets (length bytes)) same
    ∙ sym (meant bytes)

-- a list's fault after a head stays
list_stays : (h : Head) (item : Fields) (bytes others : List ℕ) (middle : Place) (f : Fault) → IsHeaded item
    → length others ≡ length bytes
    → take f.end (bits_of_bytes others) ≡ take f.end (bits_of_bytes bytes)
    → IsSpelled ((head (length bytes)).rows h) (beginning bytes) middle
    → IsListFault stops.Message item middle f
    → IsSpelled ((head (length others)).rows h) (beginning others) (place_in (bits_of_bytes others) middle.at)
    × IsListFault stops.Message item (place_in (bits_of_bytes others) middle.at) f
list_stays h item bytes others middle f headed len same first t =
    let inside = head_within h bytes middle first in
    let back : bits_of_bytes bytes ≡ middle.bits = sym first.stands.same in
    let count : length (bits_of_bytes others) ≡ length (bits_of_bytes bytes) = omega (arith, length-bits_of_bytes bytes, length-bits_of_bytes others, len) in
    let rows = (head (length bytes)).rows h in
    let past = list_past item middle f headed inside t in
    let moved : IsSpelled rows (beginning others) (place_in (bits_of_bytes others) middle.at) = record { allowed = first.allowed; stands = stands_moved (join rows) (beginning bytes) middle (bits_of_bytes others) f.end first.stands past same } in (
      subst (λ (n : ℕ). IsSpelled ((head n).rows h) (beginning others) (place_in (bits_of_bytes others) middle.at)) (sym len) moved,
      list_fault_stays stops.Message item middle f (bits_of_bytes others) headed inside (count ∙ ap length back) (same ∙ ap (take f.end) back) t,
    )

-- all bits decide that the required packet is not there
all_same : (h : Head) (bytes others : List ℕ) (middle : Place) (n : ℕ)
    → length others ≡ length bytes → n ≡ length middle.bits
    → take n (bits_of_bytes others) ≡ take n (bits_of_bytes bytes)
    → IsSpelled ((head (length bytes)).rows h) (beginning bytes) middle
    → bits_of_bytes others ≡ bits_of_bytes bytes
all_same h bytes others middle n len whole same first =
    let back : length (bits_of_bytes bytes) ≡ length middle.bits = sym (ap length first.stands.same) in
    let few : length (bits_of_bytes bytes) ≤ n = omega (arith, back, whole) in
    let few_too : length (bits_of_bytes others) ≤ n = omega (arith, few, length-bits_of_bytes bytes, length-bits_of_bytes others, len) in
    sym (take_all n (bits_of_bytes others) few_too) ∙ same ∙ take_all n (bits_of_bytes bytes) few

incomplete_end : {X : Type 0} (rows : X → List Row) (has : List X → Bool) (why : FaultKind) (p : Place)
    (f : Fault) → IsIncomplete rows has why p f → f.end ≡ length p.bits
incomplete_end rows has why p f t = ap (λ (g : Fault). g.end) t.is_fault

later_stays : (h : Head) (bytes others : List ℕ) (middle : Place) (f : Fault) → length others ≡ length bytes
    → take f.end (bits_of_bytes others) ≡ take f.end (bits_of_bytes bytes)
    → IsSpelled ((head (length bytes)).rows h) (beginning bytes) middle → IsPacketsFault h middle f
    → read_message bytes ≡ Err f → read_message others ≡ Err f
later_stays (inl h) bytes others middle f len same first (inl t) fails =
    let moved = list_stays (inl h) track_packet.fields bytes others middle f headed_track len same first t in
    fault_meant others f (inr (record { h = inl h; middle = place_in (bits_of_bytes others) middle.at; first = moved.0; is_fault = inl moved.1 }))
later_stays (inl h) bytes others middle f len same first (inr t) fails =
    same_meaning bytes others len (all_same (inl h) bytes others middle f.end len (incomplete_end _ _ _ middle f t) same first) ∙ fails
later_stays (inr h) bytes others middle f len same first (inl t) fails =
    let moved = list_stays (inr h) train_packet.fields bytes others middle f headed_train len same first t in
    fault_meant others f (inr (record { h = inr h; middle = place_in (bits_of_bytes others) middle.at; first = moved.0; is_fault = inl moved.1 }))
later_stays (inr h) bytes others middle f len same first (inr t) fails =
    same_meaning bytes others len (all_same (inr h) bytes others middle f.end len (incomplete_end _ _ _ middle f t) same first) ∙ fails

-- all such bytes have the fault
stays : (bytes others : List ℕ) (f : Fault) → length others ≡ length bytes
    → take f.end (bits_of_bytes others) ≡ take f.end (bits_of_bytes bytes)
    → IsMessageFault bytes f → read_message others ≡ Err f
stays bytes others f len same (inl t) =
    let count : length (bits_of_bytes others) ≡ length (bits_of_bytes bytes) = omega (arith, length-bits_of_bytes bytes, length-bits_of_bytes others, len) in
    let moved = fault_stays (head (length bytes)).fields (beginning bytes) f (bits_of_bytes others) (omega arith) count same t in
    fault_meant others f (inl (subst (λ (n : ℕ). IsFault (head n).fields (beginning others) f) (sym len) moved))
stays bytes others f len same (inr t) =
    later_stays t.h bytes others t.middle f len same t.first t.is_fault (fault_meant bytes f (inr t))

pub fault_none : (bytes : List ℕ) (f : Fault) → IsMessageFault bytes f → IsNoMessage bytes f
fault_none bytes f x = λ others len same m is.
    let fails = stays bytes others f len same x in
    let reads = message_meant m others is in
    cc
