-- What is written by the edition is what is written by the codecs.
use Rattle.std.proofs.Common.{◌≡◌, ℕ, ◌+◌, ◌-◌, ◌*◌, ◌≤◌, Bool, true, false, List, ◌∷◌, [], ◌++◌, length, replicate, refl, sym, ap, ap₂, ◌∙◌, arith}
use Rattle.std.specs.List.{flat_map}
use Rattle.std.proofs.lemmas.List.{length-append, length-replicate}
use Rattle.etcs_bits.specs.bits.Number.{bits_of_bytes as working_bits}
use Rattle.etcs_bits.specs.layout.Rows.{AreAllowed}
use Rattle.etcs_bits.specs.declared.variables.version.Version.{Version}
use Rattle.etcs_bits.specs.declared.variables.version.Version.TheVariants as versions
use Rattle.etcs_bits.specs.declared.variables.duplicate.Dup.{Dup}
use Rattle.etcs_bits.specs.declared.variables.duplicate.Dup.TheVariants as dups
use Rattle.etcs_bits.proofs.NumberLemmas.{length-bits_of_bytes}
use Rattle.etcs_profile.specs.Track.{track_packet as track_format}
use Rattle.etcs_radio.specs.Message.{IsEncoding as IsMessageEncoding, used_bits as used_by_message}
use Rattle.etcs_radio.specs.Text.{IsCanonicalText as IsCanonicalMessage}
use Rattle.etcs_radio.specs.declared.message.Message.{Message}
use Rattle.etcs_radio.specs.declared.message.Message.TheVariants as messages
use Rattle.etcs_telegram.proofs.TelegramLemmas.{canonical_length}
use Rattle.etcs_telegram.specs.declared.size.Size.{Size}
use Rattle.etcs_telegram.specs.declared.size.Size.TheVariants.{Short, Long}
use Rattle.etcs_telegram.specs.Header.{header as header_format}
use Rattle.etcs_telegram.specs.Record.{Telegram}
use Rattle.etcs_telegram.specs.Sizes.{user_bits as counted_bits, byte_count, pad_count}
use Rattle.etcs_telegram.specs.Telegram.{canonical_bits, used_bits}
use Rattle.etcs_telegram.specs.Text.{IsCanonicalText, no_pads}
use Rattle.etcs_edition.specs.Wire.{bit_count, bits_of_fields, any_number}
use Rattle.etcs_edition.specs.Variables.{version_field, dup_field}
use Rattle.etcs_edition.specs.TrackPackets.{track_packet_fields}
use Rattle.etcs_edition.specs.Telegram.{header_fields, telegram_fields, user_bits}
use Rattle.etcs_edition.specs.Message.{message_fields}
use Rattle.etcs_edition.specs.Encoding.{IsWrittenTelegram, IsWrittenMessage}
use Rattle.etcs_edition.proofs.AgreeLemmas.{agree_flat, count_append}
use Rattle.etcs_edition.proofs.TrackLemmas.{agree_track_packet}
use Rattle.etcs_edition.proofs.TrainLemmas.{agree_train_packet}
use Rattle.etcs_edition.proofs.MessageLemmas.{same_required, agree_message}
use Rattle.etcs_edition.proofs.TelegramLemmas.{same_size, front_same, telegram_fit, telegram_allowed}
use Rattle.etcs_edition.proofs.TextLemmas.{same_bytes, byte_number, pad_number, few_bits}

-- ---- how many bits a telegram has

version_width : (v : Version) → (version_field v).width ≡ 7
version_width versions.V2_0 = refl
version_width versions.V2_1 = refl

dup_width : (v : Dup) → (dup_field v).width ≡ 2
dup_width dups.Single = refl
dup_width dups.Next = refl
dup_width dups.Previous = refl

pub used_same : (t : Telegram) → used_bits t ≡ bit_count (telegram_fields t)
used_same t =
    let fields = flat_map track_packet_fields t.packets in
    omega (
      arith,
      count_append (header_fields t.header) (fields ++ any_number 8 255 ∷ []),
      count_append fields (any_number 8 255 ∷ []),
      version_width t.header.version,
      dup_width t.header.dup,
      (agree_flat agree_track_packet t.packets).size,
    )

fits_same : (t : Telegram) → bit_count (telegram_fields t) ≤ user_bits t.size → used_bits t ≤ counted_bits t.size
fits_same t fits = rw (used_same t, same_size t.size) fits

same_fits : (t : Telegram) → used_bits t ≤ counted_bits t.size → bit_count (telegram_fields t) ≤ user_bits t.size
same_fits t fits = omega (arith, fits, used_same t, same_size t.size)

-- the bits of a telegram, filled up with ones
same_canonical : (t : Telegram) → AreAllowed (header_format.rows t.header) → AreAllowed (flat_map track_format.rows t.packets)
    → canonical_bits t
    ≡ bits_of_fields (telegram_fields t) ++ replicate (user_bits t.size - bit_count (telegram_fields t)) true
same_canonical t first later =
    ap₂ (λ (bits : List Bool) (n : ℕ). bits ++ replicate n true) (front_same t first later)
    (ap₂ (λ (a b : ℕ). a - b) (same_size t.size) (used_same t))

count_number : (size : Size) (n : ℕ) → 8 * n ≡ user_bits size + pad_count size → n ≡ byte_count size
count_number Short n all = omega (arith, all)
count_number Long n all = omega (arith, all)

-- ---- telegrams

pub written_telegram : (t : Telegram) (text : List ℕ) → IsWrittenTelegram t text → IsCanonicalText t text
written_telegram t text y =
    let parts = telegram_allowed t y.spelled.0 in
    let fits = fits_same t y.fits in
    let ones = replicate (user_bits t.size - bit_count (telegram_fields t)) true in
    let pads = replicate (length y.bytes * 8 - user_bits t.size) false in
    let bits : y.spelling ++ ones ≡ canonical_bits t =
    ap (λ (bits : List Bool). bits ++ ones) y.spelled.1 ∙ sym (same_canonical t parts.0 parts.1) in
    let whole : working_bits y.bytes ≡ canonical_bits t ++ pads =
    same_bytes y.bytes ∙ y.padded ∙ ap (λ (bits : List Bool). bits ++ pads) bits in
    let all : 8 * length y.bytes ≡ user_bits t.size + (length y.bytes * 8 - user_bits t.size) =
    sym (length-bits_of_bytes y.bytes) ∙ ap length whole ∙ length-append (canonical_bits t) pads
    ∙ rw (canonical_length t fits, same_size t.size, length-replicate (length y.bytes * 8 - user_bits t.size) false) refl in
    let count = byte_number t.size (length y.bytes) all y.whole in
    record {
      bits = canonical_bits t;
      encoding = record { fits = fits; header = parts.0; packets = parts.1; canonical = refl };
      bytes = y.bytes;
      in_range = y.in_range;
      padded =
          whole
          ∙ ap (λ n. canonical_bits t ++ replicate n false)
          (ap (λ n. n * 8 - user_bits t.size) count ∙ pad_number t.size);
      written = y.written;
    }

pub telegram_written : (t : Telegram) (text : List ℕ) → IsCanonicalText t text → IsWrittenTelegram t text
telegram_written t text x =
    let e = x.encoding in
    let bits : x.bits ≡ canonical_bits t = e.canonical in
    let all : 8 * length x.bytes ≡ user_bits t.size + pad_count t.size =
    sym (length-bits_of_bytes x.bytes) ∙ ap length x.padded ∙ length-append x.bits (no_pads t.size)
    ∙ rw (bits, canonical_length t e.fits, same_size t.size, length-replicate (pad_count t.size) false) refl in
    let count = count_number t.size (length x.bytes) all in
    let pads : pad_count t.size ≡ length x.bytes * 8 - user_bits t.size =
    sym (pad_number t.size) ∙ ap (λ n. n * 8 - user_bits t.size) (sym count) in
    record {
      bytes = x.bytes;
      spelling = bits_of_fields (telegram_fields t);
      spelled = (telegram_fit t e.header e.packets, refl);
      fits = same_fits t e.fits;
      in_range = x.in_range;
      padded =
          sym (same_bytes x.bytes) ∙ x.padded
          ∙ ap₂ (λ (bits : List Bool) (n : ℕ). bits ++ replicate n false)
          (bits ∙ same_canonical t e.header e.packets) pads;
      whole = rw count (few_bits t.size);
      written = x.written;
    }

-- ---- messages

pub used_same_message : (n : ℕ) (m : Message) → used_by_message m ≡ bit_count (message_fields n m)
used_same_message n (messages.Movement m) = omega (arith, (agree_flat agree_track_packet m.packets).size)
used_same_message n (messages.Position m) = omega (arith, (agree_flat agree_train_packet m.packets).size)

rest_same : (n : ℕ) (m : Message) → n * 8 - bit_count (message_fields n m) ≡ 8 * n - used_by_message m
rest_same n m = omega (arith, used_same_message n m)

pub written_message : (m : Message) (text : List ℕ) → IsWrittenMessage m text → IsCanonicalMessage m text
written_message m text y =
    let a = agree_message (length y.bytes) m in
    let allowed = a.allowed y.spelled.0 in
    let used = used_same_message (length y.bytes) m in
    let encoding : IsMessageEncoding m y.bytes = record {
      in_range = y.in_range;
      allowed = allowed;
      few = let whole = y.whole in omega (arith, used);
      canonical =
          same_bytes y.bytes ∙ y.padded
          ∙ ap₂ (λ (bits : List Bool) (n : ℕ). bits ++ replicate n false) (y.spelled.1 ∙ sym (a.bits allowed))
          (rest_same (length y.bytes) m);
      complete = sym (same_required m) ∙ y.complete;
    } in
    record { bytes = y.bytes; encoding = encoding; written = y.written }

pub message_written : (m : Message) (text : List ℕ) → IsCanonicalMessage m text → IsWrittenMessage m text
message_written m text x =
    let e = x.encoding in
    let a = agree_message (length x.bytes) m in
    let used = used_same_message (length x.bytes) m in
    record {
      bytes = x.bytes;
      spelling = bits_of_fields (message_fields (length x.bytes) m);
      spelled = (a.fit e.allowed, refl);
      in_range = e.in_range;
      padded =
          sym (same_bytes x.bytes) ∙ e.canonical
          ∙ ap₂ (λ (bits : List Bool) (n : ℕ). bits ++ replicate n false) (a.bits e.allowed)
          (sym (rest_same (length x.bytes) m));
      whole = let few = e.few in omega (arith, used);
      complete = same_required m ∙ e.complete;
      written = x.written;
    }
