-- The reason to refuse a text, and what the text means.
use Rattle.std.proofs.Common.{◌≡◌, ◌≢◌, ◌↔◌, ℕ, ◌-◌, ◌*◌, Bool, arith, sym, inl, IfErr, IsErrOf, true, false, List, length, if◌then◌else◌, Option, Some, None, Result, Ok, Err, refl, ap, ap₂, subst, ◌∙◌}
use Rattle.std.specs.Prelude.{IfOk}
use Rattle.hex.specs.Hex.{decode_of, IsBytes}
use Rattle.hex.specs.declared.error.FromHexError.{FromHexError}
use Rattle.hex.proofs.HexLemmas.{decode_of-digits, decode_of-ok, decode_of-same}
use Rattle.etcs_bits.specs.declared.layout.fault.Fault.{Fault}
use Rattle.etcs_bits.specs.layout.Fault.{IsFault}
use Rattle.etcs_digits.specs.Hexadecimal.{IsHexadecimal}
use Rattle.etcs_digits.proofs.DigitLemmas.{decoded_digits, not_decoded}
use Rattle.etcs_packet.specs.Whole.{start}
use Rattle.etcs_packet.proofs.WholeLemmas.{head_stands}
use Rattle.etcs_telegram.specs.declared.error.TextError.{TextError}
use Rattle.etcs_telegram.specs.declared.error.TextError.TheVariants as errors
use Rattle.etcs_telegram.specs.declared.size.Size.{Size}
use Rattle.etcs_telegram.specs.declared.size.Size.TheVariants.{Short, Long}
use Rattle.etcs_telegram.specs.Header.{header}
use Rattle.etcs_telegram.specs.Record.{Telegram}
use Rattle.etcs_telegram.specs.Sizes.{byte_count}
use Rattle.etcs_telegram.specs.TextMeaning.{size_from_bytes, of_bits, of_size, of_bytes, of_decoded, telegram_of_text, pads_with_zeros}
use Rattle.etcs_telegram.specs.Meaning.{read_telegram}
use Rattle.etcs_telegram.specs.Text.{ArePadded, HasHeaderFault, HasPackets, IsReason, IsBytesReason, IsTelegramText, HavePadSet, HaveFault, take_user_bits, IsReasonDecoded, IsTextMeaning}
use Rattle.etcs_telegram.proofs.LawLemmas.{fault_meant, fault_none, meant_fault, means_text, padded_means}
use Rattle.etcs_telegram.proofs.TextLemmas.{size_in_back, size_counts, none_counts, padded_when, set_when}

-- ---- a reason is what the text means

not_hex : (text : List ℕ) (d : Result (List ℕ) FromHexError) → decode_of text ≡ d
    → (IsHexadecimal text → ⊥) → of_decoded d ≡ Err errors.NotHex
not_hex text (Ok bytes) decoded not = absurd (not (decoded_digits text bytes decoded))
not_hex text (Err e) decoded not = refl

no_size : (bytes : List ℕ) (o : Option Size) → size_from_bytes (length bytes) ≡ o
    → ((size : Size) → length bytes ≢ byte_count size) → of_size o bytes ≡ Err errors.WrongSize
no_size bytes None sized none = refl
no_size bytes (Some size) sized none = absurd (none size (size_counts (length bytes) size sized))

-- if a pad bit is set, the pad bits are not all zeros
not_zeros : (size : Size) (bytes : List ℕ) (zeros : Bool) → pads_with_zeros size bytes ≡ zeros
    → IsBytes bytes → length bytes ≡ byte_count size → (x : HavePadSet bytes) → x.size ≡ size → zeros ≡ false
not_zeros size bytes false is in_range count x same = refl
not_zeros size bytes true is in_range count x same =
    let padded = padded_when size bytes count (in_range (byte_count size - 1)) is in
    absurd (x.set (rw same padded.padding))

set_read : (bytes : List ℕ) → IsBytes bytes → HavePadSet bytes → of_bytes bytes ≡ Err errors.PadBits
set_read bytes in_range x =
    let size : size_from_bytes (length bytes) ≡ Some x.size = ap size_from_bytes x.count ∙ size_in_back x.size in
    let other = not_zeros x.size bytes (pads_with_zeros x.size bytes) refl in_range x.count x refl in
    rw (size, other) refl

fault_read : (f : Fault) (bytes : List ℕ) → IsBytes bytes → HaveFault bytes f
    → of_bytes bytes ≡ Err (errors.Fault f)
fault_read f bytes in_range x =
    padded_means x.size bytes in_range x.padded ∙ ap of_bits (fault_meant (take_user_bits x.size bytes) f x.first)

pub reason_read : (e : TextError) (text : List ℕ) → e ≢ errors.Memory → IsReason e text → telegram_of_text text ≡ Err e
unfolding telegram_of_text
reason_read errors.Memory text other x = absurd (other refl)
reason_read errors.NotHex text other x = not_hex text (decode_of text) refl x
reason_read errors.WrongSize text other x =
    rw x.decoded (no_size x.bytes (size_from_bytes (length x.bytes)) refl x.reason)
reason_read errors.PadBits text other x =
    rw x.decoded (set_read x.bytes (decode_of-ok text x.bytes x.decoded).3 x.reason)
reason_read (errors.Fault f) text other x =
    rw x.decoded (fault_read f x.bytes (decode_of-ok text x.bytes x.decoded).3 x.reason)

-- ---- and what a text means is its reason

read_fault : (e : TextError) (r : Result Telegram Fault) → of_bits r ≡ Err e
    → (f : Fault) × (r ≡ Err f) × (errors.Fault f ≡ e)
read_fault e (Ok t) is = absurd cc
read_fault e (Err f) is = let same : errors.Fault f ≡ e = cc in (f, refl, same)

read_in : (e : TextError) (size : Size) (bytes : List ℕ) (zeros : Bool) → pads_with_zeros size bytes ≡ zeros
    → IsBytes bytes → length bytes ≡ byte_count size
    → (if zeros then of_bits (read_telegram (take_user_bits size bytes)) else Err errors.PadBits) ≡ Err e
    → IsBytesReason e bytes
read_in e size bytes true zeros in_range count is =
    let x = read_fault e (read_telegram (take_user_bits size bytes)) is in
    let first = meant_fault (take_user_bits size bytes) x.0 x.1 in
    let fault : HaveFault bytes x.0 = record {
      size = size;
      padded = padded_when size bytes count (in_range (byte_count size - 1)) zeros;
      first = first;
      none = fault_none (take_user_bits size bytes) x.0 first;
    } in
    subst (λ (y : TextError). IsBytesReason y bytes) x.2 fault
read_in e size bytes false zeros in_range count is =
    let same : errors.PadBits ≡ e = cc in
    subst (λ (y : TextError). IsBytesReason y bytes) same (set_when size bytes count (in_range (byte_count size - 1)) zeros)

read_sized : (e : TextError) (bytes : List ℕ) (o : Option Size) → IsBytes bytes → size_from_bytes (length bytes) ≡ o
    → of_size o bytes ≡ Err e → IsBytesReason e bytes
read_sized e bytes None in_range sized is =
    let same : errors.WrongSize ≡ e = cc in
    subst (λ (y : TextError). IsBytesReason y bytes) same (none_counts (length bytes) sized)
read_sized e bytes (Some size) in_range sized is =
    read_in e size bytes (pads_with_zeros size bytes) refl in_range (size_counts (length bytes) size sized) is

-- the reason of bytes is the reason of the text that spells them
of_text : (e : TextError) (text bytes : List ℕ) → decode_of text ≡ Ok bytes → IsBytesReason e bytes → IsReason e text
of_text errors.Memory text bytes decoded x = tt
of_text errors.NotHex text bytes decoded x = absurd x
of_text errors.WrongSize text bytes decoded x = record { bytes = bytes; decoded = decoded; reason = x }
of_text errors.PadBits text bytes decoded x = record { bytes = bytes; decoded = decoded; reason = x }
of_text (errors.Fault f) text bytes decoded x = record { bytes = bytes; decoded = decoded; reason = x }

read_decoded : (e : TextError) (text : List ℕ) (d : Result (List ℕ) FromHexError) → decode_of text ≡ d
    → of_decoded d ≡ Err e → IsReason e text
read_decoded e text (Ok bytes) decoded is =
    of_text e text bytes decoded (read_sized e bytes (size_from_bytes (length bytes)) (decode_of-ok text bytes decoded).3 refl is)
read_decoded e text (Err x) decoded is =
    let same : errors.NotHex ≡ e = cc in
    subst (λ (y : TextError). IsReason y text) same (not_decoded text x decoded)

pub read_reason : (e : TextError) (text : List ℕ) → telegram_of_text text ≡ Err e → IsReason e text
unfolding telegram_of_text
read_reason e text is = read_decoded e text (decode_of text) refl is

-- ---- what is reported without memory

-- the reasons that are checked before the user bits
abbrev pub IsEarly : TextError → Type 0
IsEarly errors.Memory = ⊥
IsEarly errors.NotHex = Unit {0}
IsEarly errors.WrongSize = Unit {0}
IsEarly errors.PadBits = Unit {0}
IsEarly (errors.Fault f) = ⊥

no_memory : (e : TextError) → IsEarly e → e ≢ errors.Memory
no_memory errors.Memory early is = early
no_memory errors.NotHex early is = absurd cc
no_memory errors.WrongSize early is = absurd cc
no_memory errors.PadBits early is = absurd cc
no_memory (errors.Fault f) early is = absurd cc

-- a text means what its bytes mean
pub decoded_means : (text bytes : List ℕ) → decode_of text ≡ Ok bytes → telegram_of_text text ≡ of_bytes bytes
unfolding telegram_of_text
decoded_means text bytes decoded = rw decoded refl

-- and these what their user bits mean
user_bits_mean : (text bytes : List ℕ) (size : Size) → decode_of text ≡ Ok bytes → ArePadded size bytes
    → telegram_of_text text ≡ of_bits (read_telegram (take_user_bits size bytes))
user_bits_mean text bytes size decoded padded =
    decoded_means text bytes decoded ∙ padded_means size bytes (decode_of-ok text bytes decoded).3 padded

-- if a packet is due, the text has no early reason
not_early : (text : List ℕ) (e : TextError) → IsEarly e → HasPackets text → telegram_of_text text ≡ Err e → ⊥
not_early text e early x is =
    let means = user_bits_mean text x.bytes x.packets.size x.decoded x.packets.padded in
    let fault = read_fault e (read_telegram (take_user_bits x.packets.size x.bytes)) (sym means ∙ is) in
    subst IsEarly (sym fault.2) early

-- and its header has no fault
one_size : (a b : Size) → byte_count a ≡ byte_count b → a ≡ b
one_size a b count =
    let both : Some a ≡ Some b = sym (size_in_back a) ∙ ap size_from_bytes count ∙ size_in_back b in
    cc

no_header_fault : (text : List ℕ) (f : Fault) → HasPackets text → HasHeaderFault text f → ⊥
no_header_fault text f x y =
    let bytes : y.bytes ≡ x.bytes = decode_of-same text y.bytes x.bytes y.decoded x.decoded in
    let size : y.fault.size ≡ x.packets.size = one_size y.fault.size x.packets.size (sym y.fault.padded.count ∙ ap length bytes ∙ x.packets.padded.count) in
    let bits : take_user_bits y.fault.size y.bytes ≡ take_user_bits x.packets.size x.bytes = ap₂ (λ s b. take_user_bits s b) size bytes in
    let followed = x.packets.followed in
    head_stands header.fields header.rows followed.h (start (take_user_bits x.packets.size x.bytes)) followed.middle f (omega arith)
    header.laid.are_rows followed.first (subst (λ (b : List Bool). IsFault header.fields (start b) f) bits y.fault.first)

-- ---- what is returned

pub ok_of : (r : Result Telegram TextError) (text : List ℕ) → IsTextMeaning r (telegram_of_text text)
    → IfOk r (λ t. IsTelegramText t text)
ok_of (Ok t) text exact = means_text t text exact
ok_of (Err e) text exact = tt

pub reason_of : (r : Result Telegram TextError) (text : List ℕ) → IsTextMeaning r (telegram_of_text text)
    → IfErr r (λ e. IsReason e text)
reason_of (Ok t) text exact = tt
reason_of (Err errors.Memory) text exact = tt
reason_of (Err errors.NotHex) text exact = read_reason errors.NotHex text exact
reason_of (Err errors.WrongSize) text exact = read_reason errors.WrongSize text exact
reason_of (Err errors.PadBits) text exact = read_reason errors.PadBits text exact
reason_of (Err (errors.Fault f)) text exact = read_reason (errors.Fault f) text exact

-- what the text means is returned, unless memory ran out
is_returned : (r meaning : Result Telegram TextError) (e : TextError) → IsTextMeaning r meaning
    → (IsErrOf r errors.Memory → ⊥) → meaning ≡ Err e → IsErrOf r e
is_returned (Ok t) meaning e exact none is = absurd cc
is_returned (Err errors.Memory) meaning e exact none is = absurd (none refl)
is_returned (Err errors.NotHex) meaning e exact none is = sym exact ∙ is
is_returned (Err errors.WrongSize) meaning e exact none is = sym exact ∙ is
is_returned (Err errors.PadBits) meaning e exact none is = sym exact ∙ is
is_returned (Err (errors.Fault f)) meaning e exact none is = sym exact ∙ is

-- an early reason is returned if and only if it holds
pub reported : (r : Result Telegram TextError) (text : List ℕ) (e : TextError) → IsEarly e
    → IsTextMeaning r (telegram_of_text text) → (IsErrOf r errors.Memory → HasPackets text)
    → IsErrOf r e ↔ IsReason e text
reported r text e early exact packets = (
  λ is. rw is at (reason_of r text exact),
  λ reason.
      let means = reason_read e text (no_memory e early) reason in
      is_returned r (telegram_of_text text) e exact (λ memory. not_early text e early (packets memory) means) means,
)

-- and so is the fault of a header
pub header_reported : (r : Result Telegram TextError) (text : List ℕ) (f : Fault)
    → IsTextMeaning r (telegram_of_text text) → (IsErrOf r errors.Memory → HasPackets text)
    → HasHeaderFault text f → r ≡ Err (errors.Fault f)
header_reported r text f exact packets x =
    let means = user_bits_mean text x.bytes x.fault.size x.decoded x.fault.padded in
    let first = fault_meant (take_user_bits x.fault.size x.bytes) f (inl x.fault.first) in
    is_returned r (telegram_of_text text) (errors.Fault f) exact (λ memory. no_header_fault text f (packets memory) x) (means ∙ ap of_bits first)

-- ---- texts that are not decoded into a telegram's bytes

pub not_hex_means : (text : List ℕ) → (IsHexadecimal text → ⊥) → telegram_of_text text ≡ Err errors.NotHex
not_hex_means text not = reason_read errors.NotHex text (no_memory errors.NotHex tt) not

-- a text with another number of digits
other_size : (text : List ℕ) → IsHexadecimal text → length text ≢ 54 → length text ≢ 208
    → IsReasonDecoded errors.WrongSize text
other_size text h short long =
    let d = decode_of-digits text h.even h.digits in
    let two = (decode_of-ok text d.0 d.1).2 in
    record { bytes = d.0; decoded = d.1; reason = λ size. not_sized size d.0 two }
  where
    not_sized : (size : Size) (bytes : List ℕ) → length text ≡ 2 * length bytes → length bytes ≢ byte_count size
    not_sized Short bytes two count = short (omega (arith, two, count))
    not_sized Long bytes two count = long (omega (arith, two, count))

pub other_size_means : (text : List ℕ) → IsHexadecimal text → length text ≢ 54 → length text ≢ 208
    → telegram_of_text text ≡ Err errors.WrongSize
other_size_means text h short long =
    reason_read errors.WrongSize text (no_memory errors.WrongSize tt) (other_size text h short long)
