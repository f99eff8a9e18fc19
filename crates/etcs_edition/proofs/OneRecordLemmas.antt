-- A telegram or a message is determined by the fields that are read of its form.
use Rattle.std.proofs.Common.{◌≡◌, ℕ, zero, suc, ◌<◌, Bool, true, false, List, [], ◌∷◌, ◌++◌, length, drop, Ok, refl, sym, ap, ap₂, ◌∙◌, subst, arith}
use Rattle.std.specs.List.{AllByRecursion, flat_map}
use Rattle.serde_json.specs.Data.{Data}
use Rattle.etcs_bits.proofs.FaultLemmas.{no_front}
use Rattle.etcs_bits.proofs.StandLemmas.{join-append, length-join}
use Rattle.etcs_bits.proofs.WidthLemmas.{width_both}
use Rattle.etcs_bits.specs.declared.variables.identity.Identity.{Identity}
use Rattle.etcs_bits.specs.lemmas.RowLemmas.{allowed_first, allowed_second}
use Rattle.etcs_bits.specs.layout.Format.{Format}
use Rattle.etcs_bits.specs.layout.Rows.{AreAllowed, join as row_bits, width}
use Rattle.etcs_json.specs.AnyMessage as any
use Rattle.etcs_json.specs.Telegrams as telegrams
use Rattle.etcs_packet.proofs.EndLemmas.{headed_wide}
use Rattle.etcs_packet.specs.Lists.{IsHeaded}
use Rattle.etcs_profile.specs.declared.track.TrackPacket.{TrackPacket}
use Rattle.etcs_profile.specs.Track.{track_packet as track_format}
use Rattle.etcs_radio.specs.declared.message.Message.{Message}
use Rattle.etcs_radio.specs.declared.message.Message.TheVariants as messages
use Rattle.etcs_radio.specs.declared.train_packet.TrainPacket.{TrainPacket}
use Rattle.etcs_radio.specs.Record.{Movement, Position}
use Rattle.etcs_radio.specs.TrainPacket.{train_packet as train_format}
use Rattle.etcs_schema.specs.Codec.{object}
use Rattle.etcs_telegram.specs.declared.header.Header.{Header}
use Rattle.etcs_telegram.specs.declared.size.Size.{Size}
use Rattle.etcs_telegram.specs.declared.size.Size.TheVariants.{Short, Long}
use Rattle.etcs_telegram.specs.Header.{header as header_format}
use Rattle.etcs_telegram.specs.Record.{Telegram}
use Rattle.etcs_edition.specs.Wire.{Field, IsWritable, bit, bits_of_fields}
use Rattle.etcs_edition.specs.Telegram.{user_bits}
use Rattle.etcs_edition.specs.TrackPackets.{track_packet_fields}
use Rattle.etcs_edition.specs.TrainPackets.{train_packet_fields}
use Rattle.etcs_edition.specs.EncodedLines.{message_form_fields, telegram_form_fields}
use Rattle.etcs_edition.specs.Keys as keys
use Rattle.etcs_edition.proofs.AgreeLemmas.{Agree, agree_both, agree_flat}
use Rattle.etcs_edition.proofs.EncodeLemmas.{found, read_record, record_read}
use Rattle.etcs_edition.proofs.KeyMessageLemmas.{read_message, read_telegram}
use Rattle.etcs_edition.proofs.TelegramLemmas.{agree_header}
use Rattle.etcs_edition.proofs.TrackLemmas.{agree_track_packet}
use Rattle.etcs_edition.proofs.TrainLemmas.{agree_train_packet}

-- ---- records one after the other

module _ {X : Type 0} (format : Format X) where
  same_record : (x y : X) → format.rows x ≡ format.rows y → x ≡ y
  same_record x y same = sym (format.laid.is_record x) ∙ ap format.of same ∙ format.laid.is_record y

  pub same_first : (x y : X) (a b : List Bool) → AreAllowed (format.rows x) → AreAllowed (format.rows y)
      → row_bits (format.rows x) ++ a ≡ row_bits (format.rows y) ++ b → (x ≡ y) × (a ≡ b)
  same_first x y a b one other same =
      let both = no_front format.fields (format.rows x) (format.rows y) a b (format.laid.are_rows x) (format.laid.are_rows y) one other same in
      (same_record x y both.0, both.1)

  none : (x : X) (xs : List X) → 0 < width (format.rows x) → row_bits (flat_map format.rows (x ∷ xs)) ≡ [] → ⊥
  none x xs wide is =
      omega (
        arith,
        wide,
        ap length is,
        length-join (flat_map format.rows (x ∷ xs)),
        width_both (format.rows x) (flat_map format.rows xs),
      )

  pub same_list : ((x : X) → 0 < width (format.rows x)) → (xs ys : List X) → AreAllowed (flat_map format.rows xs)
      → AreAllowed (flat_map format.rows ys) → row_bits (flat_map format.rows xs) ≡ row_bits (flat_map format.rows ys) → xs ≡ ys
  same_list wide [] [] one other same = refl
  same_list wide [] (y ∷ ys) one other same = absurd (none y ys (wide y) (sym same))
  same_list wide (x ∷ xs) [] one other same = absurd (none x xs (wide x) same)
  same_list wide (x ∷ xs) (y ∷ ys) one other same =
      let parts =
      same_first x y (row_bits (flat_map format.rows xs)) (row_bits (flat_map format.rows ys))
      (allowed_first (format.rows x) (flat_map format.rows xs) one) (allowed_first (format.rows y) (flat_map format.rows ys) other)
      (sym (join-append (format.rows x) (flat_map format.rows xs)) ∙ same ∙ join-append (format.rows y) (flat_map format.rows ys)) in
      ap₂ (λ (z : X) (zs : List X). z ∷ zs) parts.0
      (same_list wide xs ys (allowed_second (format.rows x) (flat_map format.rows xs) one)
      (allowed_second (format.rows y) (flat_map format.rows ys) other) parts.1)

-- packets with the same fields
module _ {X : Type 0} (format : Format X) (headed : IsHeaded format.fields) (fields : X → List Field)
    (agree : (x : X) → Agree (format.rows x) (fields x)) where
  wide : (x : X) → 0 < width (format.rows x)
  wide x = omega (arith, headed_wide format.fields (format.rows x) headed (format.laid.are_rows x))

  pub same_packets : (xs ys : List X) → AllByRecursion IsWritable (flat_map fields xs) → AllByRecursion IsWritable (flat_map fields ys)
      → flat_map fields xs ≡ flat_map fields ys → xs ≡ ys
  same_packets xs ys one other same =
      let a = agree_flat agree xs in
      let b = agree_flat agree ys in
      same_list format wide xs ys (a.allowed one) (b.allowed other)
      (a.bits (a.allowed one) ∙ ap bits_of_fields same ∙ sym (b.bits (b.allowed other)))

-- ---- telegrams

same_size : (s z : Size) → user_bits s ≡ user_bits z → s ≡ z
same_size Short Short is = refl
same_size Long Long is = refl
same_size Short Long is = absurd (omega (arith, is))
same_size Long Short is = absurd (omega (arith, is))

-- the number of the field at an index, or 0
abbrev number_at : ℕ → List Field → ℕ
number_at i [] = 0
number_at zero (f ∷ fields) = f.number
number_at (suc i) (f ∷ fields) = number_at i fields

abbrev made : Size → Header × List TrackPacket → Telegram
made size p = record { size = size; header = p.0; packets = p.1 }

one_telegram : (t u : Telegram) → telegram_form_fields t ≡ telegram_form_fields u
    → AllByRecursion IsWritable (telegram_form_fields t) → AllByRecursion IsWritable (telegram_form_fields u) → t ≡ u
one_telegram t u same one other =
    let a = agree_both (agree_header t.header) (agree_flat agree_track_packet t.packets) in
    let b = agree_both (agree_header u.header) (agree_flat agree_track_packet u.packets) in
    let fit = a.allowed one.1 in
    let also = b.allowed other.1 in
    let h = header_format.rows t.header in
    let g = header_format.rows u.header in
    let xs = flat_map track_format.rows t.packets in
    let ys = flat_map track_format.rows u.packets in
    let bits : row_bits (h ++ xs) ≡ row_bits (g ++ ys) =
    a.bits fit ∙ ap (λ (fields : List Field). bits_of_fields (drop 1 fields)) same ∙ sym (b.bits also) in
    let parts =
    same_first header_format t.header u.header (row_bits xs) (row_bits ys) (allowed_first h xs fit) (allowed_first g ys also)
    (sym (join-append h xs) ∙ bits ∙ join-append g ys) in
    let packets =
    same_list track_format (λ p. omega (arith, headed_wide track_format.fields (track_format.rows p) (refl, refl) (track_format.laid.are_rows p)))
    t.packets u.packets (allowed_second h xs fit) (allowed_second g ys also) parts.1 in
    ap₂ made (same_size t.size u.size (ap (number_at 0) same))
    (ap₂ (λ (x : Header) (ps : List TrackPacket). let p : Header × List TrackPacket = (x, ps) in p) parts.0 packets)

pub telegram_is : (d : Data) (t : Telegram) → keys.telegram d ≡ Ok (telegram_form_fields t)
    → (object telegrams.telegram).of d ≡ Ok t
telegram_is d t is =
    let r = keys.telegram d in
    let s = (object telegrams.telegram).of d in
    let y = read_record telegram_form_fields r s (telegram_form_fields t) (read_telegram d) is in
    let all = (record_read telegram_form_fields r s y.0 (read_telegram d) y.1).1 in
    let one = subst (AllByRecursion IsWritable) (sym y.2) all in
    y.1 ∙ ap found (sym (one_telegram t y.0 y.2 one all))

pub is_telegram : (d : Data) (t : Telegram) → (object telegrams.telegram).of d ≡ Ok t
    → keys.telegram d ≡ Ok (telegram_form_fields t)
is_telegram d t is =
    (record_read telegram_form_fields (keys.telegram d) ((object telegrams.telegram).of d) t (read_telegram d) is).0

-- ---- messages

same_flag : (a b : Bool) → (bit a).number ≡ (bit b).number → a ≡ b
same_flag true true is = refl
same_flag false false is = refl
same_flag true false is = absurd (omega (arith, is))
same_flag false true is = absurd (omega (arith, is))

same_group : (i j : Identity) → i.country ≡ j.country → i.group ≡ j.group → i ≡ j
same_group i j country group = ap₂ (λ (c g : ℕ). record { country = c; group = g }) country group

abbrev movement : ℕ × Bool → Identity × List TrackPacket → Message
movement p q = messages.Movement (record { time = p.0; ack = p.1; lrbg = q.0; packets = q.1 })

abbrev position : ℕ × ℕ → List TrainPacket → Message
position p packets = messages.Position (record { time = p.0; engine = p.1; packets = packets })

one_movement : (m k : Movement) → message_form_fields (messages.Movement m) ≡ message_form_fields (messages.Movement k)
    → AllByRecursion IsWritable (message_form_fields (messages.Movement m))
    → AllByRecursion IsWritable (message_form_fields (messages.Movement k)) → messages.Movement m ≡ messages.Movement k
one_movement m k same one other =
    let packets =
    same_packets track_format (refl, refl) track_packet_fields agree_track_packet m.packets k.packets one.1.1.1.1.1 other.1.1.1.1.1
    (ap (drop 5) same) in
    let group = same_group m.lrbg k.lrbg (ap (number_at 3) same) (ap (number_at 4) same) in
    ap₂ movement
    (ap₂ (λ (t : ℕ) (a : Bool). let p : ℕ × Bool = (t, a) in p) (ap (number_at 1) same) (same_flag m.ack k.ack (ap (number_at 2) same)))
    (ap₂ (λ (i : Identity) (ps : List TrackPacket). let p : Identity × List TrackPacket = (i, ps) in p) group packets)

one_position : (m k : Position) → message_form_fields (messages.Position m) ≡ message_form_fields (messages.Position k)
    → AllByRecursion IsWritable (message_form_fields (messages.Position m))
    → AllByRecursion IsWritable (message_form_fields (messages.Position k)) → messages.Position m ≡ messages.Position k
one_position m k same one other =
    let packets =
    same_packets train_format (refl, refl) train_packet_fields agree_train_packet m.packets k.packets one.1.1.1 other.1.1.1
    (ap (drop 3) same) in
    ap₂ position (ap₂ (λ (t e : ℕ). let p : ℕ × ℕ = (t, e) in p) (ap (number_at 1) same) (ap (number_at 2) same)) packets

one_message : (m k : Message) → message_form_fields m ≡ message_form_fields k
    → AllByRecursion IsWritable (message_form_fields m) → AllByRecursion IsWritable (message_form_fields k) → m ≡ k
one_message (messages.Movement m) (messages.Movement k) same one other = one_movement m k same one other
one_message (messages.Position m) (messages.Position k) same one other = one_position m k same one other
one_message (messages.Movement m) (messages.Position k) same one other = absurd (omega (arith, ap (number_at 0) same))
one_message (messages.Position m) (messages.Movement k) same one other = absurd (omega (arith, ap (number_at 0) same))

pub message_is : (d : Data) (m : Message) → keys.message d ≡ Ok (message_form_fields m) → any.message.of d ≡ Ok m
message_is d m is =
    let r = keys.message d in
    let s = any.message.of d in
    let y = read_record message_form_fields r s (message_form_fields m) (read_message d) is in
    let all = (record_read message_form_fields r s y.0 (read_message d) y.1).1 in
    let one = subst (AllByRecursion IsWritable) (sym y.2) all in
    y.1 ∙ ap found (sym (one_message m y.0 y.2 one all))

pub is_message : (d : Data) (m : Message) → any.message.of d ≡ Ok m → keys.message d ≡ Ok (message_form_fields m)
is_message d m is = (record_read message_form_fields (keys.message d) (any.message.of d) m (read_message d) is).0
