-- What `encode` and `encode --radio` write for a line by the edition is what the program writes.
use Rattle.std.proofs.Common.{◌≡◌, ℕ, ◌+◌, ◌-◌, ◌*◌, ◌/◌, ◌<◌, ◌≤◌, ◌==◌, ◌⊎◌, Bool, true, false, List, [], ◌∷◌, ◌++◌, length, take, drop, replicate, Result, Ok, Err, refl, sym, ap, ap₂, ◌∙◌, subst, inl, inr, arith}
use Rattle.std.specs.Prelude.{codes, nat_le, if◌then◌else◌, IfOk}
use Rattle.std.proofs.lemmas.Bool.{leb-true, leb-false}
use Rattle.std.specs.List.{AllByRecursion, flat_map}
use Rattle.std.proofs.lemmas.List.{length-append, length-replicate}
use Rattle.hex.specs.Hex.{encode_lower}
use Rattle.serde_json.specs.Data.{Data}
use Rattle.etcs_bits.specs.layout.Rows.{AreAllowed, join}
use Rattle.etcs_document.specs.Refusal.{line_words}
use Rattle.etcs_json.specs.AnyMessage as any
use Rattle.etcs_json.specs.Messages as radio
use Rattle.etcs_json.specs.Telegrams as telegrams
use Rattle.etcs_profile.specs.Track.{track_packet as track_format}
use Rattle.etcs_radio.specs.Message.{is_complete, message_rows, used_bits as used_by_message, IsEncoding as IsMessageEncoding}
use Rattle.etcs_radio.specs.Record.{Movement, Position}
use Rattle.etcs_radio.specs.Required.{has_authority, has_report}
use Rattle.etcs_radio.specs.Text.{IsCanonicalText as IsCanonicalMessage}
use Rattle.etcs_radio.specs.declared.message.Message.{Message}
use Rattle.etcs_radio.specs.declared.message.Message.TheVariants as messages
use Rattle.etcs_radio.proofs.EncodeLemmas.{message_width}
use Rattle.etcs_run.proofs.FormLemmas as run
use Rattle.etcs_run.specs.FormLines.{encoded, message_line, telegram_line}
use Rattle.etcs_schema.specs.BodyText.{packed_bytes}
use Rattle.etcs_schema.specs.Choices.{tag_member, with_number}
use Rattle.etcs_schema.specs.Codec.{object}
use Rattle.etcs_schema.specs.Fault.{Fault}
use Rattle.etcs_schema.specs.Reading.{◌>>=◌, as_kind, only_keys, allowed_number}
use Rattle.etcs_schema.specs.lemmas.BodyLemmas.{are_bytes, bits_again, length-packed_bytes}
use Rattle.etcs_telegram.proofs.TelegramLemmas.{canonical_length}
use Rattle.etcs_telegram.specs.Header.{header as header_format}
use Rattle.etcs_telegram.specs.Record.{Telegram}
use Rattle.etcs_telegram.specs.Sizes.{byte_count, pad_count, user_bits as counted_bits}
use Rattle.etcs_telegram.specs.Telegram.{canonical_bits, used_bits}
use Rattle.etcs_telegram.specs.Text.{IsCanonicalText, no_pads}
use Rattle.etcs_telegram.specs.declared.size.Size.{Size}
use Rattle.etcs_telegram.specs.declared.size.Size.TheVariants.{Short, Long}
use Rattle.etcs_edition.specs.Wire.{Field, IsWritable, any_number, bit_count, Spells}
use Rattle.etcs_edition.specs.Message.{message_fields}
use Rattle.etcs_edition.specs.Telegram.{header_fields, telegram_fields, user_bits}
use Rattle.etcs_edition.specs.TrackPackets.{track_packet_fields}
use Rattle.etcs_edition.specs.Encoding.{IsWrittenMessage, IsWrittenTelegram}
use Rattle.etcs_edition.specs.EncodedLines.{IsMessageDigits, IsTelegramDigits, message_form_fields, telegram_form_fields}
use Rattle.etcs_edition.specs.Keys as keys
use Rattle.etcs_edition.proofs.AgreeLemmas.{agree_flat, fit_first, fit_second}
use Rattle.etcs_edition.proofs.EncodeLemmas as lines
use Rattle.etcs_edition.proofs.EncodingLemmas.{message_written, telegram_written, used_same, used_same_message, written_message, written_telegram}
use Rattle.etcs_edition.proofs.KeyMessageLemmas.{held_movement, held_position, read_message, read_telegram}
use Rattle.etcs_edition.proofs.MessageLemmas.{agree_message, same_required}
use Rattle.etcs_edition.proofs.TelegramLemmas.{agree_header, same_size}
use Rattle.etcs_edition.proofs.TrackLemmas.{agree_track_packet}

-- ---- telegrams

-- two telegrams with the same fields have the same size and the same bits
same_sizes : (t u : Telegram) → telegram_form_fields t ≡ telegram_form_fields u → user_bits t.size ≡ user_bits u.size
same_sizes t u same = ap first_number same
  where
    first_number : List Field → ℕ
    first_number [] = 0
    first_number (f ∷ fields) = f.number

same_fields : (t u : Telegram) → telegram_form_fields t ≡ telegram_form_fields u → telegram_fields t ≡ telegram_fields u
same_fields t u same = ap (λ (fields : List Field). drop 1 fields ++ any_number 8 255 ∷ []) same

written_same : (t u : Telegram) (digits : List ℕ) → telegram_form_fields t ≡ telegram_form_fields u
    → IsWrittenTelegram t digits → IsWrittenTelegram u digits
written_same t u digits same w =
    let fields = same_fields t u same in
    let size = same_sizes t u same in
    record {
      bytes = w.bytes;
      spelling = w.spelling;
      spelled = subst (λ (fs : List Field). Spells fs w.spelling) fields w.spelled;
      fits = omega (arith, w.fits, size, ap bit_count fields);
      in_range = w.in_range;
      padded =
          w.padded
          ∙ ap₂ (λ (ones pads : ℕ). w.spelling ++ replicate ones true ++ replicate pads false)
          (ap₂ (λ (a b : ℕ). a - b) size (ap bit_count fields)) (ap (λ (n : ℕ). length w.bytes * 8 - n) size);
      whole = let whole = w.whole in omega (arith, whole, size);
      written = w.written;
    }

telegram_text_is : (d : Data) (t u : Telegram) (digits : List ℕ) → (object telegrams.telegram).of d ≡ Ok u
    → telegram_form_fields t ≡ telegram_form_fields u → AllByRecursion IsWritable (telegram_form_fields u)
    → IsWrittenTelegram t digits → telegram_line u ≡ Ok (digits ++ codes "\n")
telegram_text_is d t u digits read same all w =
    run.telegram_written u digits (digits ++ codes "\n") (written_telegram u digits (written_same t u digits same w)) refl

telegram_is_big : (t u : Telegram) → telegram_form_fields t ≡ telegram_form_fields u
    → user_bits t.size < bit_count (telegram_fields t) → telegram_line u ≡ Err (codes "too big")
unfolding line_words
telegram_is_big t u same big =
    run.telegram_too_big u
    (omega (arith, big, same_sizes t u same, same_size u.size, used_same u, ap bit_count (same_fields t u same)))

whole_bytes : (size : Size) → counted_bits size + pad_count size ≡ 8 * byte_count size
whole_bytes Short = refl
whole_bytes Long = refl

telegram_has_text : (t : Telegram) → AreAllowed (header_format.rows t.header) → AreAllowed (flat_map track_format.rows t.packets)
    → used_bits t ≤ counted_bits t.size → (digits : List ℕ) × IsWrittenTelegram t digits
telegram_has_text t header packets fits =
    let n = byte_count t.size in
    let bits = canonical_bits t ++ no_pads t.size in
    let count : length bits ≡ 8 * n =
    length-append (canonical_bits t) (no_pads t.size)
    ∙ rw (canonical_length t fits, length-replicate (pad_count t.size) false) (whole_bytes t.size) in
    let canonical : IsCanonicalText t (encode_lower (packed_bytes n bits)) = record {
      bits = canonical_bits t;
      encoding = record { fits = fits; header = header; packets = packets; canonical = refl };
      bytes = packed_bytes n bits;
      in_range = are_bytes n bits;
      padded = bits_again n bits count;
      written = refl;
    } in
    (encode_lower (packed_bytes n bits), telegram_written t (encode_lower (packed_bytes n bits)) canonical)

telegram_ends : (d : Data) (t : Telegram) → (object telegrams.telegram).of d ≡ Ok t
    → AllByRecursion IsWritable (telegram_form_fields t)
    → ((digits : List ℕ) × IsWrittenTelegram t digits) ⊎ (user_bits t.size < bit_count (telegram_fields t))
telegram_ends d t read all = by_size (nat_le (bit_count (telegram_fields t)) (user_bits t.size)) refl
  where
    by_size : (b : Bool) → nat_le (bit_count (telegram_fields t)) (user_bits t.size) ≡ b
        → ((digits : List ℕ) × IsWrittenTelegram t digits) ⊎ (user_bits t.size < bit_count (telegram_fields t))
    by_size true is =
        let fits = leb-true (bit_count (telegram_fields t)) (user_bits t.size) is in
        let packets = flat_map track_packet_fields t.packets in
        inl (telegram_has_text t ((agree_header t.header).allowed (fit_first (header_fields t.header) packets all.1))
        ((agree_flat agree_track_packet t.packets).allowed (fit_second (header_fields t.header) packets all.1))
        (omega (arith, fits, used_same t, same_size t.size)))
    by_size false is = inr (leb-false (bit_count (telegram_fields t)) (user_bits t.size) is)

pub telegram_encoded : (line : List ℕ) → IsTelegramDigits line (encoded (object telegrams.telegram) telegram_line line)
telegram_encoded =
    lines.is_encoded (object telegrams.telegram) telegram_line keys.telegram telegram_form_fields IsWrittenTelegram
    (λ t. user_bits t.size < bit_count (telegram_fields t)) read_telegram telegram_text_is telegram_is_big telegram_ends

pub encoded_telegram : (line : List ℕ) (r : Result (List ℕ) (List ℕ)) → IsTelegramDigits line r
    → r ≡ encoded (object telegrams.telegram) telegram_line line
encoded_telegram =
    lines.encoded_is (object telegrams.telegram) telegram_line keys.telegram telegram_form_fields IsWrittenTelegram
    (λ t. user_bits t.size < bit_count (telegram_fields t)) read_telegram telegram_text_is telegram_is_big telegram_ends

-- ---- messages that are read have the packet that they need

abbrev both : {X : Type 0} → Unit {0} → X → Result (Unit {0} × X) Fault
both u x = Ok (u, x)

after_number : {X : Type 0} (P : X → Type 0) (u v : Result (Unit {0}) Fault) (r : Result X Fault) → IfOk r P
    → IfOk (u >>= λ _. ((v >>= λ w. r >>= both w) >>= λ p. lines.found p.1)) P
after_number P (Err e) v r is = tt
after_number P (Ok u) (Err e) r is = tt
after_number P (Ok u) (Ok v) (Err e) is = tt
after_number P (Ok u) (Ok v) (Ok x) is = is

movement_complete : (d : Data) → IfOk ((object (with_number radio.movement)).of d) (λ m. has_authority m.packets ≡ true)
movement_complete d =
    after_number (λ m. has_authority m.packets ≡ true) (only_keys (with_number radio.movement).members.keys d) _
    (radio.movement.members.of d) (held_movement.passes d)

position_complete : (d : Data) → IfOk ((object (with_number radio.position)).of d) (λ m. has_report m.packets ≡ true)
position_complete d =
    after_number (λ m. has_report m.packets ≡ true) (only_keys (with_number radio.position).members.keys d) _
    (radio.position.members.of d) (held_position.passes d)

kind_complete : (a b : Bool) (r : Result Movement Fault) (s : Result Position Fault) (f : Fault)
    → IfOk r (λ m. has_authority m.packets ≡ true) → IfOk s (λ m. has_report m.packets ≡ true)
    → IfOk (as_kind any.either_message (if a then as_kind inl r else as_kind inr (if b then s else Err f)))
    (λ m. is_complete m ≡ true)
kind_complete true b (Ok m) s f first second = first
kind_complete true b (Err e) s f first second = tt
kind_complete false true r (Ok m) f first second = second
kind_complete false true r (Err e) f first second = tt
kind_complete false false r s f first second = tt

numbered_complete : (t : Result ℕ Fault) (d : Data)
    → IfOk (as_kind any.either_message (t >>= λ n. any.numbered.of n d)) (λ m. is_complete m ≡ true)
numbered_complete (Err e) d = tt
numbered_complete (Ok n) d = kind_complete (n == 3) (n == 136) _ _ _ (movement_complete d) (position_complete d)

is_found : {X : Type 0} (P : X → Type 0) (r : Result X Fault) (x : X) → IfOk r P → r ≡ Ok x → P x
is_found {X = X} P r x is same = subst (λ (s : Result X Fault). IfOk s P) same is

message_complete : (d : Data) (m : Message) → any.message.of d ≡ Ok m → is_complete m ≡ true
unfolding any.message
message_complete d m is =
    is_found (λ m. is_complete m ≡ true) _ m
    (numbered_complete (tag_member (allowed_number any.numbered.allows) (codes "nid_message") d) d) is

-- ---- messages

-- the fields of a message of so many bytes
fields_again : (n : ℕ) (m : Message)
    → take 1 (message_form_fields m) ++ any_number 10 n ∷ drop 1 (message_form_fields m) ≡ message_fields n m
fields_again n (messages.Movement m) = refl
fields_again n (messages.Position m) = refl

same_message : (n : ℕ) (m k : Message) → message_form_fields m ≡ message_form_fields k → message_fields n m ≡ message_fields n k
same_message n m k same =
    sym (fields_again n m)
    ∙ ap (λ (fields : List Field). take 1 fields ++ any_number 10 n ∷ drop 1 fields) same
    ∙ fields_again n k

message_text_is : (d : Data) (m k : Message) (digits : List ℕ) → any.message.of d ≡ Ok k
    → message_form_fields m ≡ message_form_fields k → AllByRecursion IsWritable (message_form_fields k)
    → IsWrittenMessage m digits → message_line k ≡ Ok (digits ++ codes "\n")
message_text_is d m k digits read same all w =
    let n = length w.bytes in
    let fields = same_message n m k same in
    let written : IsWrittenMessage k digits = record {
      bytes = w.bytes;
      spelling = w.spelling;
      spelled = subst (λ (fs : List Field). Spells fs w.spelling) fields w.spelled;
      in_range = w.in_range;
      padded =
          w.padded
          ∙ ap (λ (count : ℕ). w.spelling ++ replicate (n * 8 - count) false) (ap bit_count fields);
      whole = let whole = w.whole in omega (arith, whole, ap bit_count fields);
      complete = same_required k ∙ message_complete d k read;
      written = w.written;
    } in
    run.message_written k digits (digits ++ codes "\n") (written_message k digits written) refl

message_is_big : (m k : Message) → message_form_fields m ≡ message_form_fields k
    → 8184 < bit_count (message_fields 0 m) → message_line k ≡ Err (codes "too big")
unfolding line_words
message_is_big m k same big =
    run.message_too_big k (omega (arith, big, used_same_message 0 k, ap bit_count (same_message 0 m k same)))

-- all fields can be written in a message of up to 1,023 bytes
message_fits : (n : ℕ) (m : Message) → n < 1024 → AllByRecursion IsWritable (message_form_fields m)
    → AllByRecursion IsWritable (message_fields n m)
message_fits n (messages.Movement m) few all = (all.0, ((few, refl), all.1))
message_fits n (messages.Position m) few all = (all.0, ((few, refl), all.1))

message_has_text : (m : Message) → AllByRecursion IsWritable (message_form_fields m) → is_complete m ≡ true
    → used_by_message m ≤ 8184 → (digits : List ℕ) × IsWrittenMessage m digits
message_has_text m all complete fits =
    let n = (used_by_message m + 7) / 8 in
    let k = 8 * n - used_by_message m in
    let bits = join (message_rows n m) ++ replicate k false in
    let bytes = packed_bytes n bits in
    let count : length bytes ≡ n = length-packed_bytes n bits in
    let size : length bits ≡ 8 * n =
    length-append (join (message_rows n m)) (replicate k false)
    ∙ rw (message_width n m, length-replicate k false) (omega arith) in
    let few : n < 1024 = omega (arith, fits) in
    let encoding : IsMessageEncoding m bytes = record {
      in_range = are_bytes n bits;
      allowed = rw count ((agree_message n m).allowed (message_fits n m few all));
      few = omega (arith, count);
      canonical =
          bits_again n bits size
          ∙ ap (λ (i : ℕ). join (message_rows i m) ++ replicate (8 * i - used_by_message m) false) (sym count);
      complete = complete;
    } in
    let canonical : IsCanonicalMessage m (encode_lower bytes) =
    record { bytes = bytes; encoding = encoding; written = refl } in
    (encode_lower bytes, message_written m (encode_lower bytes) canonical)

message_ends : (d : Data) (m : Message) → any.message.of d ≡ Ok m → AllByRecursion IsWritable (message_form_fields m)
    → ((digits : List ℕ) × IsWrittenMessage m digits) ⊎ (8184 < bit_count (message_fields 0 m))
message_ends d m read all = by_size (nat_le (bit_count (message_fields 0 m)) 8184) refl
  where
    by_size : (b : Bool) → nat_le (bit_count (message_fields 0 m)) 8184 ≡ b
        → ((digits : List ℕ) × IsWrittenMessage m digits) ⊎ (8184 < bit_count (message_fields 0 m))
    by_size true is =
        let fits = leb-true (bit_count (message_fields 0 m)) 8184 is in
        inl (message_has_text m all (message_complete d m read) (omega (arith, fits, used_same_message 0 m)))
    by_size false is = inr (leb-false (bit_count (message_fields 0 m)) 8184 is)

pub message_encoded : (line : List ℕ) → IsMessageDigits line (encoded any.message message_line line)
message_encoded =
    lines.is_encoded any.message message_line keys.message message_form_fields IsWrittenMessage
    (λ m. 8184 < bit_count (message_fields 0 m)) read_message message_text_is message_is_big message_ends

pub encoded_message : (line : List ℕ) (r : Result (List ℕ) (List ℕ)) → IsMessageDigits line r
    → r ≡ encoded any.message message_line line
encoded_message =
    lines.encoded_is any.message message_line keys.message message_form_fields IsWrittenMessage
    (λ m. 8184 < bit_count (message_fields 0 m)) read_message message_text_is message_is_big message_ends
