-- The reason by the edition why a text is refused is the one that is reported.
use Rattle.std.proofs.Common.{◌≡◌, ◌≢◌, ◌↔◌, ℕ, ◌+◌, ◌*◌, ◌<◌, ◌≤◌, Bool, true, false, List, length, take, drop, replicate, Option, Some, None, Result, Ok, Err, refl, sym, ap, ◌∙◌, arith, if◌then◌else◌}
use Rattle.std.proofs.lemmas.List.{length-append, length-drop, length-take-le, take-append-drop}
use Rattle.hex.specs.Hex.{decode_of}
use Rattle.hex.specs.declared.error.FromHexError.{FromHexError}
use Rattle.hex.proofs.HexLemmas.{decode_of-ok, decode_of-same}
use Rattle.etcs_bits.specs.bits.Number.{bits_of_bytes as working_bits}
use Rattle.etcs_bits.proofs.NumberLemmas.{length-bits_of_bytes}
use Rattle.etcs_bits.specs.declared.layout.fault.Fault.{Fault}
use Rattle.etcs_digits.proofs.DigitLemmas.{decoded_digits}
use Rattle.etcs_telegram.specs.declared.error.TextError.{TextError}
use Rattle.etcs_telegram.specs.declared.error.TextError.TheVariants as errors
use Rattle.etcs_telegram.specs.declared.size.Size.{Size}
use Rattle.etcs_telegram.specs.declared.size.Size.TheVariants.{Short, Long}
use Rattle.etcs_telegram.specs.Record.{Telegram}
use Rattle.etcs_telegram.specs.Meaning.{read_telegram}
use Rattle.etcs_telegram.specs.Sizes.{user_bits as counted_bits, byte_count, pad_count}
use Rattle.etcs_telegram.specs.Text.{ArePadded, take_user_bits}
use Rattle.etcs_telegram.specs.TextMeaning.{of_bits, of_decoded, of_size, pads_with_zeros, size_from_bytes, telegram_of_text}
use Rattle.etcs_telegram.proofs.LawLemmas.{fault_meant, padded_means}
use Rattle.etcs_telegram.proofs.ReasonLemmas.{decoded_means, reason_read, read_reason}
use Rattle.etcs_telegram.proofs.TextLemmas.{size_counts}
use Rattle.etcs_radio.specs.Meaning.{read_message}
use Rattle.etcs_radio.specs.declared.error.RadioTextError.{RadioTextError}
use Rattle.etcs_radio.specs.declared.error.RadioTextError.TheVariants as radio
use Rattle.etcs_radio.specs.declared.message.Message.{Message}
use Rattle.etcs_radio.specs.TextMeaning.{message_of_text, of_bytes as message_of_bytes, of_decoded as message_of_decoded}
use Rattle.etcs_edition.specs.Telegram.{user_bits}
use Rattle.etcs_edition.specs.Refusals.{IsSized, IsTelegramReason, IsMessageReason}
use Rattle.etcs_edition.proofs.FaultLemmas.{telegram_fault_is_read, message_fault_is_read}
use Rattle.etcs_edition.proofs.TelegramLemmas.{same_size}
use Rattle.etcs_edition.proofs.TextLemmas.{same_bytes, first_of, others_of}

-- ---- the bits of a text that has a size

all_bits : (size : Size) → 8 * byte_count size ≡ counted_bits size + pad_count size
all_bits Short = refl
all_bits Long = refl

few_pads : (size : Size) → pad_count size < 8
few_pads Short = omega arith
few_pads Long = omega arith

least_bytes : (size : Size) (n k : ℕ) → 8 * n ≡ user_bits size + k → k < 8 → n ≡ byte_count size
least_bytes Short n k all few = omega (arith, all, few)
least_bytes Long n k all few = omega (arith, all, few)

counted : (text : List ℕ) (x : IsSized text) → length x.bytes ≡ byte_count x.size
counted text x =
    let all = sym (length-bits_of_bytes x.bytes) ∙ ap length (same_bytes x.bytes ∙ x.are) ∙ length-append x.bits x.pads in
    least_bytes x.size (length x.bytes) (length x.pads) (omega (arith, all, x.count)) x.few

first_bits : (text : List ℕ) (x : IsSized text) → take_user_bits x.size x.bytes ≡ x.bits
first_bits text x =
    ap (take (counted_bits x.size)) (same_bytes x.bytes ∙ x.are)
    ∙ first_of (counted_bits x.size) x.bits x.pads (x.count ∙ sym (same_size x.size))

last_bits : (text : List ℕ) (x : IsSized text) → drop (counted_bits x.size) (working_bits x.bytes) ≡ x.pads
last_bits text x =
    ap (drop (counted_bits x.size)) (same_bytes x.bytes ∙ x.are)
    ∙ others_of (counted_bits x.size) x.bits x.pads (x.count ∙ sym (same_size x.size))

pads_count : (text : List ℕ) (x : IsSized text) → length x.pads ≡ pad_count x.size
pads_count text x =
    omega (
      arith,
      ap length (last_bits text x),
      length-drop (counted_bits x.size) (working_bits x.bytes),
      length-bits_of_bytes x.bytes,
      ap (λ (n : ℕ). 8 * n) (counted text x),
      all_bits x.size,
    )

pub sized : (text bytes : List ℕ) (size : Size) → decode_of text ≡ Ok bytes → length bytes ≡ byte_count size → IsSized text
sized text bytes size decoded count =
    let n = counted_bits size in
    let bits = working_bits bytes in
    let all = length-bits_of_bytes bytes ∙ ap (λ (k : ℕ). 8 * k) count ∙ all_bits size in
    let enough : n ≤ length bits = omega (arith, all) in
    record {
      bytes = bytes;
      size = size;
      bits = take n bits;
      pads = drop n bits;
      decoded = decoded;
      are = sym (same_bytes bytes) ∙ sym (take-append-drop n bits);
      count = length-take-le n bits enough ∙ same_size size;
      few = omega (arith, length-drop n bits, all, few_pads size);
    }

-- ---- why a text is no telegram

no_digits : (text : List ℕ) (d : Result (List ℕ) FromHexError) → decode_of text ≡ d
    → ((bytes : List ℕ) → decode_of text ≡ Ok bytes → ⊥) → of_decoded d ≡ Err errors.NotHex
no_digits text (Ok bytes) decoded not = absurd (not bytes decoded)
no_digits text (Err e) decoded not = refl

no_size : (text bytes : List ℕ) (o : Option Size) → decode_of text ≡ Ok bytes → size_from_bytes (length bytes) ≡ o
    → (IsSized text → ⊥) → of_size o bytes ≡ Err errors.WrongSize
no_size text bytes None decoded is none = refl
no_size text bytes (Some size) decoded is none =
    absurd (none (sized text bytes size decoded (size_counts (length bytes) size is)))

other_than_memory : errors.PadBits ≢ errors.Memory
other_than_memory is = absurd cc

reason_means : (text : List ℕ) (why : TextError) → IsTelegramReason text why → telegram_of_text text ≡ Err why
unfolding telegram_of_text
reason_means text errors.Memory x = absurd x
reason_means text errors.NotHex x = no_digits text (decode_of text) refl x
reason_means text errors.WrongSize x =
    rw x.1 (no_size text x.0 (size_from_bytes (length x.0)) x.1 refl x.2)
reason_means text errors.PadBits (x, set) =
    reason_read errors.PadBits text other_than_memory (record {
      bytes = x.bytes;
      decoded = x.decoded;
      reason = record {
        size = x.size;
        count = counted text x;
        set = λ zeros. set (sym (last_bits text x) ∙ zeros ∙ ap (λ (n : ℕ). replicate n false) (sym (pads_count text x)));
      };
    })
reason_means text (errors.Fault f) (x, zeros, fault) =
    let padded : ArePadded x.size x.bytes = record {
      count = counted text x;
      padding = last_bits text x ∙ zeros ∙ ap (λ (n : ℕ). replicate n false) (pads_count text x);
    } in
    decoded_means text x.bytes x.decoded
    ∙ padded_means x.size x.bytes (decode_of-ok text x.bytes x.decoded).3 padded
    ∙ ap of_bits (ap read_telegram (first_bits text x) ∙ (telegram_fault_is_read x.bits f).0 fault)

-- no text is refused because memory ran out
never : (text : List ℕ) → telegram_of_text text ≡ Err errors.Memory → ⊥
unfolding telegram_of_text
never text is = by_digits (decode_of text) is
  where
    by_bits : (r : Result Telegram Fault) → of_bits r ≡ Err errors.Memory → ⊥
    by_bits (Ok t) is = absurd cc
    by_bits (Err f) is = absurd cc

    by_test : (bytes : List ℕ) (zeros : Bool) (r : Result Telegram Fault)
        → (if zeros then of_bits r else Err errors.PadBits) ≡ Err errors.Memory → ⊥
    by_test bytes true r is = by_bits r is
    by_test bytes false r is = absurd cc

    by_size : (bytes : List ℕ) (o : Option Size) → of_size o bytes ≡ Err errors.Memory → ⊥
    by_size bytes None is = absurd cc
    by_size bytes (Some size) is = by_test bytes (pads_with_zeros size bytes) (read_telegram (take_user_bits size bytes)) is

    by_digits : (d : Result (List ℕ) FromHexError) → of_decoded d ≡ Err errors.Memory → ⊥
    by_digits (Ok bytes) is = by_size bytes (size_from_bytes (length bytes)) is
    by_digits (Err e) is = absurd cc

means_reason : (text : List ℕ) (why : TextError) → telegram_of_text text ≡ Err why → IsTelegramReason text why
unfolding sized
means_reason text errors.Memory is = absurd (never text is)
means_reason text errors.NotHex is = λ bytes decoded. read_reason errors.NotHex text is (decoded_digits text bytes decoded)
means_reason text errors.WrongSize is =
    let x = read_reason errors.WrongSize text is in
    (x.bytes, x.decoded, λ y. x.reason y.size (ap length (decode_of-same text x.bytes y.bytes x.decoded y.decoded) ∙ counted text y))
means_reason text errors.PadBits is =
    let x = read_reason errors.PadBits text is in
    let y = sized text x.bytes x.reason.size x.decoded x.reason.count in
    (y, λ zeros. x.reason.set (zeros ∙ ap (λ (n : ℕ). replicate n false) (pads_count text y)))
means_reason text (errors.Fault f) is =
    let x = read_reason (errors.Fault f) text is in
    let y = sized text x.bytes x.reason.size x.decoded x.reason.padded.count in (
      y,
      x.reason.padded.padding ∙ ap (λ (n : ℕ). replicate n false) (sym (pads_count text y)),
      (telegram_fault_is_read (take_user_bits x.reason.size x.bytes) f).1
          (fault_meant (take_user_bits x.reason.size x.bytes) f x.reason.first),
    )

pub telegram_reason : (text : List ℕ) (why : TextError) → IsTelegramReason text why ↔ (telegram_of_text text ≡ Err why)
telegram_reason text why = (reason_means text why, means_reason text why)

-- ---- why a text is no radio message

no_message_digits : (text : List ℕ) (d : Result (List ℕ) FromHexError) → decode_of text ≡ d
    → ((bytes : List ℕ) → decode_of text ≡ Ok bytes → ⊥) → message_of_decoded d ≡ Err radio.NotHex
no_message_digits text (Ok bytes) decoded not = absurd (not bytes decoded)
no_message_digits text (Err e) decoded not = refl

message_means : (text : List ℕ) (why : RadioTextError) → IsMessageReason text why → message_of_text text ≡ Err why
unfolding message_of_text
message_means text radio.Memory x = absurd x
message_means text radio.NotHex x = no_message_digits text (decode_of text) refl x
message_means text (radio.Fault f) x = rw (x.1, (message_fault_is_read x.0 f).0 x.2) refl

message_fault : (r : Result Message Fault) (f : Fault) → message_of_bytes r ≡ Err (radio.Fault f) → r ≡ Err f
message_fault (Ok m) f is = absurd cc
message_fault (Err g) f is = cc

means_message : (text : List ℕ) (d : Result (List ℕ) FromHexError) (why : RadioTextError) → decode_of text ≡ d
    → message_of_decoded d ≡ Err why → IsMessageReason text why
means_message text (Ok bytes) radio.Memory decoded is = absurd (no_other (read_message bytes) is)
  where
    no_other : (r : Result Message Fault) → message_of_bytes r ≡ Err radio.Memory → ⊥
    no_other (Ok m) is = absurd cc
    no_other (Err f) is = absurd cc
means_message text (Ok bytes) radio.NotHex decoded is = absurd (no_other (read_message bytes) is)
  where
    no_other : (r : Result Message Fault) → message_of_bytes r ≡ Err radio.NotHex → ⊥
    no_other (Ok m) is = absurd cc
    no_other (Err f) is = absurd cc
means_message text (Ok bytes) (radio.Fault f) decoded is = (bytes, decoded, (message_fault_is_read bytes f).1 (message_fault (read_message bytes) f is))
means_message text (Err e) radio.Memory decoded is = absurd cc
means_message text (Err e) radio.NotHex decoded is = λ bytes was. absurd cc
means_message text (Err e) (radio.Fault f) decoded is = absurd cc

pub message_reason : (text : List ℕ) (why : RadioTextError) → IsMessageReason text why ↔ (message_of_text text ≡ Err why)
unfolding message_of_text
message_reason text why = (message_means text why, means_message text (decode_of text) why refl)
