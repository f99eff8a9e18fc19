-- Texts and what they mean.
use Rattle.std.proofs.Common.{◌≡◌, ◌≢◌, ℕ, List, length, Result, Ok, Err, refl, sym, ap, subst, ◌∙◌, inl}
use Rattle.std.specs.Prelude.{◌↔◌, IfOk, IfErr, IsErrOf}
use Rattle.hex.specs.Hex.{decode_of, encode_lower}
use Rattle.hex.specs.declared.error.FromHexError.{FromHexError}
use Rattle.hex.proofs.HexLemmas.{decode_of-same, decode_of-encode_lower}
use Rattle.etcs_bits.specs.declared.layout.fault.Fault.{Fault}
use Rattle.etcs_bits.specs.layout.Fault.{IsFault}
use Rattle.etcs_digits.specs.Hexadecimal.{IsHexadecimal}
use Rattle.etcs_digits.proofs.DigitLemmas.{decoded_digits, not_decoded}
use Rattle.etcs_radio.specs.Head.{head}
use Rattle.etcs_radio.specs.declared.error.RadioTextError.{RadioTextError}
use Rattle.etcs_radio.specs.declared.error.RadioTextError.TheVariants as errors
use Rattle.etcs_radio.specs.declared.message.Message.{Message}
use Rattle.etcs_radio.specs.Meaning.{read_message}
use Rattle.etcs_radio.specs.Message.{beginning}
use Rattle.etcs_radio.specs.Text.{IsMessageText, IsCanonicalText, HasFault, HasHeadFault, HasPackets, IsReason, IsTextMeaning}
use Rattle.etcs_radio.specs.TextMeaning.{of_bytes, of_decoded, message_of_text}
use Rattle.etcs_radio.proofs.DecodeLemmas.{front_means, no_head_fault}
use Rattle.etcs_radio.proofs.DigitLemmas.{IsSeen}
use Rattle.etcs_radio.proofs.MessageLemmas.{message_meant, means_message, fault_meant, meant_fault}
use Rattle.etcs_radio.proofs.NoMessageLemmas.{fault_none}
use Rattle.etcs_radio.proofs.EncodeLemmas.{encoding_message, one_encoding}

-- ---- a text means what its bytes mean

pub decoded_means : (text bytes : List ℕ) → decode_of text ≡ Ok bytes
    → message_of_text text ≡ of_bytes (read_message bytes)
unfolding message_of_text
decoded_means text bytes decoded = rw decoded refl

-- and what the bytes that were read of it mean
pub seen_means : {text front : List ℕ} → IsSeen text front → message_of_text text ≡ of_bytes (read_message front)
seen_means {front = front} s = decoded_means _ s.all s.decoded ∙ ap of_bytes (sym (front_means s.all front s.is_front))

-- digits that are no hexadecimal text are not decoded
not_hex : (text : List ℕ) (d : Result (List ℕ) FromHexError) → decode_of text ≡ d
    → (IsHexadecimal text → ⊥) → of_decoded d ≡ Err errors.NotHex
not_hex text (Ok bytes) decoded not = absurd (not (decoded_digits text bytes decoded))
not_hex text (Err e) decoded not = refl

pub not_hex_means : (text : List ℕ) → (IsHexadecimal text → ⊥) → message_of_text text ≡ Err errors.NotHex
unfolding message_of_text
not_hex_means text not = not_hex text (decode_of text) refl not

-- ---- a text is a message if and only if it means it

pub text_meaning : (m : Message) (text : List ℕ) → IsMessageText m text → message_of_text text ≡ Ok m
text_meaning m text x = decoded_means text x.bytes x.decoded ∙ ap of_bytes (message_meant m x.bytes x.message)

of_bytes_ok : (r : Result Message Fault) (m : Message) → of_bytes r ≡ Ok m → r ≡ Ok m
of_bytes_ok (Ok k) m is = let same : k ≡ m = cc in ap Ok same
of_bytes_ok (Err f) m is = absurd cc

means_decoded : (m : Message) (text : List ℕ) (d : Result (List ℕ) FromHexError) → decode_of text ≡ d
    → of_decoded d ≡ Ok m → IsMessageText m text
means_decoded m text (Ok bytes) decoded is =
    record { bytes = bytes; decoded = decoded; message = means_message m bytes (of_bytes_ok (read_message bytes) m is) }
means_decoded m text (Err e) decoded is = absurd cc

pub means_text : (m : Message) (text : List ℕ) → message_of_text text ≡ Ok m → IsMessageText m text
unfolding message_of_text
means_text m text is = means_decoded m text (decode_of text) refl is

-- ---- and a reason to refuse it

pub reason_read : (e : RadioTextError) (text : List ℕ) → e ≢ errors.Memory → IsReason e text
    → message_of_text text ≡ Err e
reason_read errors.Memory text other x = absurd (other refl)
reason_read errors.NotHex text other x = not_hex_means text x
reason_read (errors.Fault f) text other x = decoded_means text x.bytes x.decoded ∙ ap of_bytes (fault_meant x.bytes f x.first)

read_fault : (e : RadioTextError) (r : Result Message Fault) → of_bytes r ≡ Err e
    → (f : Fault) × (r ≡ Err f) × (errors.Fault f ≡ e)
read_fault e (Ok m) is = absurd cc
read_fault e (Err f) is = let same : errors.Fault f ≡ e = cc in (f, refl, same)

pub has_fault : (f : Fault) (text bytes : List ℕ) → decode_of text ≡ Ok bytes → read_message bytes ≡ Err f
    → HasFault text f
has_fault f text bytes decoded means =
    let first = meant_fault bytes f means in
    record { bytes = bytes; decoded = decoded; first = first; none = fault_none bytes f first }

read_decoded : (e : RadioTextError) (text : List ℕ) (d : Result (List ℕ) FromHexError) → decode_of text ≡ d
    → of_decoded d ≡ Err e → IsReason e text
read_decoded e text (Ok bytes) decoded is =
    let x = read_fault e (read_message bytes) is in
    subst (λ (y : RadioTextError). IsReason y text) x.2 (has_fault x.0 text bytes decoded x.1)
read_decoded e text (Err x) decoded is =
    let same : errors.NotHex ≡ e = cc in
    subst (λ (y : RadioTextError). IsReason y text) same (not_decoded text x decoded)

pub read_reason : (e : RadioTextError) (text : List ℕ) → message_of_text text ≡ Err e → IsReason e text
unfolding message_of_text
read_reason e text is = read_decoded e text (decode_of text) refl is

-- ---- canonical texts

pub canonical_message_text : (m : Message) (text : List ℕ) → IsCanonicalText m text → IsMessageText m text
canonical_message_text m text x = record {
  bytes = x.bytes;
  decoded = ap decode_of x.written ∙ decode_of-encode_lower x.bytes x.encoding.in_range;
  message = encoding_message m x.bytes x.encoding;
}

pub one_text_message : (m k : Message) (text : List ℕ) → IsCanonicalText m text → IsCanonicalText k text → m ≡ k
one_text_message m k text x y =
    let a = text_meaning m text (canonical_message_text m text x) in
    let b = text_meaning k text (canonical_message_text k text y) in
    let same = sym a ∙ b in
    cc

pub one_canonical_text : (m : Message) (a b : List ℕ) → IsCanonicalText m a → IsCanonicalText m b → a ≡ b
one_canonical_text m a b x y =
    x.written ∙ ap encode_lower (one_encoding m x.bytes y.bytes x.encoding y.encoding) ∙ sym y.written

-- ---- what is returned

pub ok_of : (r : Result Message RadioTextError) (text : List ℕ) → IsTextMeaning r (message_of_text text)
    → IfOk r (λ m. IsMessageText m text)
ok_of (Ok m) text exact = means_text m text exact
ok_of (Err e) text exact = tt

pub reason_of : (r : Result Message RadioTextError) (text : List ℕ) → IsTextMeaning r (message_of_text text)
    → IfErr r (λ e. IsReason e text)
reason_of (Ok m) text exact = tt
reason_of (Err errors.Memory) text exact = tt
reason_of (Err errors.NotHex) text exact = read_reason errors.NotHex text exact
reason_of (Err (errors.Fault f)) text exact = read_reason (errors.Fault f) text exact

-- what the text means is returned, unless memory ran out
is_returned : (r meaning : Result Message RadioTextError) (e : RadioTextError) → IsTextMeaning r meaning
    → (IsErrOf r errors.Memory → ⊥) → meaning ≡ Err e → IsErrOf r e
is_returned (Ok m) meaning e exact none is = absurd cc
is_returned (Err errors.Memory) meaning e exact none is = absurd (none refl)
is_returned (Err errors.NotHex) meaning e exact none is = sym exact ∙ is
is_returned (Err (errors.Fault f)) meaning e exact none is = sym exact ∙ is

pub not_hex_returned : (r : Result Message RadioTextError) (text : List ℕ)
    → IsTextMeaning r (message_of_text text) → (IsErrOf r errors.Memory → HasPackets text)
    → IsErrOf r errors.NotHex ↔ (IsHexadecimal text → ⊥)
not_hex_returned r text exact packets = (
  λ is. rw is at (reason_of r text exact),
  λ not. is_returned r (message_of_text text) errors.NotHex exact (λ memory. let x = packets memory in not (decoded_digits text x.bytes x.decoded)) (not_hex_means text not),
)

pub head_fault_returned : (r : Result Message RadioTextError) (text : List ℕ) (f : Fault)
    → IsTextMeaning r (message_of_text text) → (IsErrOf r errors.Memory → HasPackets text)
    → HasHeadFault text f → IsErrOf r (errors.Fault f)
head_fault_returned r text f exact packets x =
    is_returned r (message_of_text text) (errors.Fault f) exact
    (λ memory. let y = packets memory in no_head_fault y.bytes f y.grows (subst (λ (xs : List ℕ). IsFault (head (length xs)).fields (beginning xs) f) (decode_of-same text x.bytes y.bytes x.decoded y.decoded) x.fault))
    (decoded_means text x.bytes x.decoded ∙ ap of_bytes (fault_meant x.bytes f (inl x.fault)))
