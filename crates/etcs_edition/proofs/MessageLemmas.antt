-- Messages by the edition are those of the codecs.
use Rattle.std.proofs.Common.{◌≡◌, ℕ, ◌<◌, ◌==◌, ◌⊎◌, Bool, true, false, List, [], ◌∷◌, ◌++◌, length, Option, Some, None, refl, sym, ap, ◌∙◌, inl, inr}
use Rattle.std.specs.Prelude.{◌||◌, if◌then◌else◌, not}
use Rattle.std.specs.List.{list_any}
use Rattle.std.proofs.lemmas.Bool.{false≢true}
use Rattle.etcs_bits.specs.declared.variables.identity.Identity.{Identity}
use Rattle.etcs_profile.specs.declared.track.TrackPacket.{TrackPacket}
use Rattle.etcs_profile.specs.declared.track.TrackPacket.TheVariants as packets
use Rattle.etcs_profile.specs.Authority.{AuthorityValue}
use Rattle.etcs_profile.specs.Track.{authority_number, track_number}
use Rattle.etcs_radio.specs.declared.report.Report.{Report}
use Rattle.etcs_radio.specs.declared.train_packet.TrainPacket.{TrainPacket}
use Rattle.etcs_radio.specs.declared.train_packet.TrainPacket.TheVariants as train_packets
use Rattle.etcs_radio.specs.RawTrain.{other_of}
use Rattle.etcs_radio.specs.Report.{report_numbered}
use Rattle.etcs_radio.specs.Required.{is_authority}
use Rattle.etcs_radio.specs.TrainPacket.{is_report}
use Rattle.etcs_edition.specs.TrackPackets.{authority_fields, track_packet_fields}
use Rattle.etcs_edition.specs.TrainPackets.{report_fields, train_packet_fields}
use Rattle.etcs_bits.specs.bits.Number.{num as bits_of}
use Rattle.etcs_bits.specs.layout.Rows.{alone}
use Rattle.etcs_bits.specs.lemmas.ChoiceLemmas.{is_itself}
use Rattle.etcs_bits.specs.variables.Variables.{plain, only}
use Rattle.etcs_bits.specs.declared.layout.fault.FaultKind.TheVariants.{Length}
use Rattle.etcs_radio.specs.declared.message.Message.{Message}
use Rattle.etcs_radio.specs.declared.message.Message.TheVariants as messages
use Rattle.etcs_radio.specs.Head.{nid_message}
use Rattle.etcs_radio.specs.Message.{IsMessage as IsDecodedMessage, message_rows, is_complete}
use Rattle.etcs_radio.specs.Text.{IsMessageText as IsDecodedMessageText}
use Rattle.etcs_radio.proofs.EncodeLemmas.{message_spelled, spelled_message}
use Rattle.etcs_edition.specs.Wire.{num, bits_of_fields}
use Rattle.etcs_edition.specs.Message.{message_fields, has_number, has_required, IsMessage, IsMessageText}
use Rattle.etcs_edition.proofs.AgreeLemmas.{Agree, same_num, agree_both, agree_any, agree_bit, agree_flat}
use Rattle.etcs_edition.proofs.TrackLemmas.{agree_track_packet}
use Rattle.etcs_edition.proofs.TrainLemmas.{agree_lrbg, agree_train_packet}
use Rattle.etcs_edition.proofs.TextLemmas.{same_bytes}

pub agree_message : (n : ℕ) (m : Message) → Agree (message_rows n m) (message_fields n m)
unfolding alone
agree_message n (messages.Movement m) =
    agree_any nid_message 3 refl (
    agree_any (only 10 n Length) n (is_itself n) (
    agree_any (plain 32) m.time refl (
    agree_both (agree_bit m.ack) (
    agree_both (agree_lrbg m.lrbg) (agree_flat agree_track_packet m.packets)))))
agree_message n (messages.Position m) =
    agree_any nid_message 136 refl (
    agree_any (only 10 n Length) n (is_itself n) (
    agree_any (plain 32) m.time refl (
    agree_any (plain 24) m.engine refl (agree_flat agree_train_packet m.packets))))

-- ---- the rest

abbrev Over : (ℕ → ℕ → List Bool) → List Bool → Type 0
Over bits rest = (length rest < 8) ⊎ ((fill : List Bool) × (rest ≡ bits 8 255 ++ fill))

over_read : (rest : List Bool) → Over bits_of rest → Over num rest
over_read rest (inl few) = inl few
over_read rest (inr mark) = inr (mark.0, mark.1 ∙ ap (λ (bits : List Bool). bits ++ mark.0) (same_num 8 255))

read_over : (rest : List Bool) → Over num rest → Over bits_of rest
read_over rest (inl few) = inl few
read_over rest (inr mark) = inr (mark.0, mark.1 ∙ ap (λ (bits : List Bool). bits ++ mark.0) (sym (same_num 8 255)))

-- ---- the required packet

any_same : {X : Type 0} (f g : X → Bool) → ((x : X) → f x ≡ g x) → (xs : List X) → list_any f xs ≡ list_any g xs
any_same f g same [] = refl
any_same f g same (x ∷ xs) = rw (same x, any_same f g same xs) refl

-- NID_PACKET is the first variable of a packet
authority_has : (n : ℕ) (main : Option ℕ) (a : AuthorityValue)
    → has_number n (authority_fields a main) ≡ (authority_number main == n)
authority_has n (Some v) a = refl
authority_has n None a = refl

pub has_its_number : (n : ℕ) (p : TrackPacket) → has_number n (track_packet_fields p) ≡ (track_number p == n)
has_its_number n (packets.Cover p) = refl
has_its_number n (packets.Linking p) = refl
has_its_number n (packets.Authority a) = authority_has n a.main a
has_its_number n (packets.Gradient p) = refl
has_its_number n (packets.Speed p) = refl
has_its_number n (packets.Transition p) = refl
has_its_number n (packets.Raw p) = refl

report_has_one : (previous : Option Identity) (r : Report)
    → (has_number 0 (report_fields r previous) || has_number 1 (report_fields r previous)) ≡ true
report_has_one None r = refl
report_has_one (Some previous) r = refl

-- a test of the number of a position report, 0 or 1
pub one_of_two : (n : ℕ) → (if n == 0 then true else (n == 1)) ≡ (n == 0 || (n == 1))
one_of_two n = by_tests (n == 0) (n == 1)
  where
    by_tests : (a b : Bool) → (if a then true else b) ≡ (a || b)
    by_tests true b = refl
    by_tests false b = refl

pub is_other : (known end : Bool) → not (known || end) ≡ true → false ≡ known
is_other true end kept = absurd (false≢true kept)
is_other false end kept = refl

is_0_or_1 : (p : TrainPacket)
    → (has_number 0 (train_packet_fields p) || has_number 1 (train_packet_fields p)) ≡ is_report p
is_0_or_1 (train_packets.Report r) = report_has_one r.previous r
is_0_or_1 (train_packets.Raw p) =
    sym (is_other (report_numbered.allows p.number) (p.number == 255) (other_of p.number (length p.body) p.kept)
    ∙ one_of_two p.number)

pub same_required : (m : Message) → has_required m ≡ is_complete m
same_required (messages.Movement m) =
    any_same (λ p. has_number 15 (track_packet_fields p)) is_authority (has_its_number 15) m.packets
same_required (messages.Position m) =
    any_same (λ p. has_number 0 (train_packet_fields p) || has_number 1 (train_packet_fields p)) is_report is_0_or_1 m.packets

-- ---- messages

pub read_message : (m : Message) (bytes : List ℕ) → IsDecodedMessage m bytes → IsMessage m bytes
read_message m bytes is =
    let x = message_spelled m bytes is in
    let a = agree_message (length bytes) m in
    record {
      rest = x.rest;
      spelling = bits_of_fields (message_fields (length bytes) m);
      spelled = (a.fit x.allowed, refl);
      are =
          sym (same_bytes bytes) ∙ x.are ∙ ap (λ (bits : List Bool). bits ++ x.rest) (a.bits x.allowed);
      over = over_read x.rest x.over;
      complete = same_required m ∙ x.complete;
    }

pub message_read : (m : Message) (bytes : List ℕ) → IsMessage m bytes → IsDecodedMessage m bytes
message_read m bytes y =
    let a = agree_message (length bytes) m in
    let allowed = a.allowed y.spelled.0 in
    spelled_message m bytes (record {
      rest = y.rest;
      allowed = allowed;
      over = read_over y.rest y.over;
      are =
          same_bytes bytes ∙ y.are
          ∙ ap (λ (bits : List Bool). bits ++ y.rest) (y.spelled.1 ∙ sym (a.bits allowed));
      complete = sym (same_required m) ∙ y.complete;
    })

pub read_message_text : (m : Message) (text : List ℕ) → IsDecodedMessageText m text → IsMessageText m text
read_message_text m text x =
    record { bytes = x.bytes; decoded = x.decoded; message = read_message m x.bytes x.message }

pub message_text_read : (m : Message) (text : List ℕ) → IsMessageText m text → IsDecodedMessageText m text
message_text_read m text y =
    record { bytes = y.bytes; decoded = y.decoded; message = message_read m y.bytes y.message }
