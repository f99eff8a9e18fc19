-- Which bytes a message has, and how long they are.
use Rattle.std.proofs.Common.{◌≡◌, ℕ, suc, ◌+◌, ◌-◌, ◌*◌, ◌<◌, ◌≤◌, true, false, Bool, List, [], ◌∷◌, ◌++◌, length, take, drop, replicate, refl, sym, ap, ap₂, ◌∙◌, ◌⊎◌, inl, inr, arith, append_assoc, length-append}
use Rattle.std.specs.List.{flat_map}
use Rattle.std.proofs.lemmas.List.{take_at, drop_at, length-replicate}
use Rattle.hex.specs.Hex.{IsBytes}
use Rattle.etcs_bits.specs.bits.Number.{num, num_of_bits, bits_of_bytes}
use Rattle.etcs_bits.specs.layout.Rows.{Place, alone, AreAllowed, join, width, IsSpelled}
use Rattle.etcs_bits.specs.lemmas.RowLemmas.{allowed_first, allowed_second}
use Rattle.etcs_bits.specs.layout.Format.{Format}
use Rattle.etcs_bits.proofs.NumberLemmas.{length-num, num_of_bits-small, bits_of_bytes-cons, length-bits_of_bytes}
use Rattle.etcs_bits.proofs.StandLemmas.{length-join, join-append, allowed-append, place_in}
use Rattle.etcs_bits.proofs.WidthLemmas.{width_both}
use Rattle.etcs_packet.specs.declared.stop.Stop.TheVariants as stops
use Rattle.etcs_packet.specs.Laws.{HasNoMark}
use Rattle.etcs_packet.specs.Lists.{IsHeaded, Stand, ends}
use Rattle.etcs_profile.specs.Track.{track_packet}
use Rattle.etcs_packet.specs.Whole.{HeadAndListStand, start}
use Rattle.etcs_packet.proofs.WrittenLemmas.{few_end, mark_ends, ends_only, whole_spelled, whole_written}
use Rattle.etcs_radio.specs.declared.message.Message.{Message}
use Rattle.etcs_radio.specs.declared.message.Message.TheVariants as messages
use Rattle.etcs_radio.specs.Head.{Head, MovementHead, PositionHead, head}
use Rattle.etcs_radio.specs.Laws.{IsCompleteSpelling}
use Rattle.etcs_radio.specs.Message.{beginning, IsMessage, message_rows, used_bits, IsTooBig, IsEncoding}
use Rattle.etcs_radio.specs.TrainPacket.{train_packet}
use Rattle.etcs_radio.proofs.MessageLemmas.{headed_track, headed_train, no_track_mark, no_train_mark, message_meant}

-- ---- how many bits

movement_width : (n : ℕ) (h : MovementHead) → width ((head n).rows (inl h)) ≡ 75
unfolding alone
movement_width n h = refl

position_width : (n : ℕ) (h : PositionHead) → width ((head n).rows (inr h)) ≡ 74
unfolding alone
position_width n h = refl

rows_width : (n : ℕ) (m : Message) → width (message_rows n m) ≡ used_bits m
rows_width n (messages.Movement m) =
    let h : MovementHead = (m.time, (m.ack, m.lrbg)) in
    omega (arith, width_both ((head n).rows (inl h)) (flat_map track_packet.rows m.packets), movement_width n h)
rows_width n (messages.Position m) =
    let h : PositionHead = (m.time, m.engine) in
    omega (arith, width_both ((head n).rows (inr h)) (flat_map train_packet.rows m.packets), position_width n h)

pub message_width : (n : ℕ) (m : Message) → length (join (message_rows n m)) ≡ used_bits m
message_width n m = length-join (message_rows n m) ∙ rows_width n m

-- ---- what is spelled out is a message

-- a head and packets, and then bits at which packets end
written : {X : Type 0} (x : Format X) (h : Head) (xs : List X) (bytes : List ℕ) (rest : List Bool)
    → IsHeaded x.fields → HasNoMark x.fields
    → AreAllowed ((head (length bytes)).rows h ++ flat_map x.rows xs)
    → ends stops.Message (start rest) ≡ true
    → bits_of_bytes bytes ≡ join ((head (length bytes)).rows h ++ flat_map x.rows xs) ++ rest
    → (end : Place) × HeadAndListStand stops.Message (head (length bytes)).rows x.rows h xs (beginning bytes) end
written x h xs bytes rest headed mark allowed over are =
    let first = (head (length bytes)).rows h in
    let second = flat_map x.rows xs in
    let parts = are ∙ ap (λ (bits : List Bool). bits ++ rest) (join-append first second) ∙ append_assoc (join first) (join second) rest in (
      place_in (bits_of_bytes bytes) (length (join first) + length (join second)),
      whole_written (head (length bytes)).rows x.rows h xs stops.Message x.fields rest (bits_of_bytes bytes) headed mark x.laid.are_rows (allowed_first first second allowed) (allowed_second first second allowed) over parts,
    )

rest_ends : (rest : List Bool) → (length rest < 8) ⊎ ((fill : List Bool) × (rest ≡ num 8 255 ++ fill))
    → ends stops.Message (start rest) ≡ true
rest_ends rest (inl few) = few_end rest few
rest_ends rest (inr (fill, is)) = ap (λ (bits : List Bool). ends stops.Message (start bits)) is ∙ mark_ends stops.Message fill

pub spelled_message : (m : Message) (bytes : List ℕ) → IsCompleteSpelling m bytes → IsMessage m bytes
spelled_message (messages.Movement m) bytes x =
    let w = written track_packet (inl (m.time, (m.ack, m.lrbg))) m.packets bytes x.rest headed_track no_track_mark x.allowed (rest_ends x.rest x.over) x.are in
    record { middle = w.1.middle; end = w.0; first = w.1.first; packets = w.1.items; complete = x.complete }
spelled_message (messages.Position m) bytes x =
    let w = written train_packet (inr (m.time, m.engine)) m.packets bytes x.rest headed_train no_train_mark x.allowed (rest_ends x.rest x.over) x.are in
    record { middle = w.1.middle; end = w.0; first = w.1.first; packets = w.1.items; complete = x.complete }

-- ---- a message is spelled out

rest_over : (rest : List Bool) → ((stops.Message ≡ stops.Message) × (length rest < 8)) ⊎ ((fill : List Bool) × (rest ≡ num 8 255 ++ fill))
    → (length rest < 8) ⊎ ((fill : List Bool) × (rest ≡ num 8 255 ++ fill))
rest_over rest (inl few) = inl few.1
rest_over rest (inr mark) = inr mark

-- the parts of a head and packets
record ArePartsOf {X : Type 0} (x : Format X) (h : Head) (xs : List X) (bytes : List ℕ) : Type 0 where
  pub rest : List Bool
  pub allowed : AreAllowed ((head (length bytes)).rows h ++ flat_map x.rows xs)
  pub over : (length rest < 8) ⊎ ((fill : List Bool) × (rest ≡ num 8 255 ++ fill))
  pub are : bits_of_bytes bytes ≡ join ((head (length bytes)).rows h ++ flat_map x.rows xs) ++ rest

parts_of : {X : Type 0} (x : Format X) (h : Head) (xs : List X) (bytes : List ℕ) (middle end : Place)
    → IsSpelled ((head (length bytes)).rows h) (beginning bytes) middle → Stand stops.Message x.rows xs middle end
    → ArePartsOf x h xs bytes
parts_of x h xs bytes middle end first items =
    let whole : HeadAndListStand stops.Message (head (length bytes)).rows x.rows h xs (beginning bytes) end = record { middle = middle; first = first; items = items } in
    let parts = whole_spelled (head (length bytes)).rows x.rows h xs stops.Message (bits_of_bytes bytes) (record { end = end; whole = whole }) in
    let one = (head (length bytes)).rows h in
    let two = flat_map x.rows xs in
    record {
      rest = parts.rest;
      allowed = allowed-append one two parts.first parts.items;
      over = rest_over parts.rest (ends_only stops.Message parts.rest parts.over);
      are = parts.are ∙ sym (append_assoc (join one) (join two) parts.rest) ∙ ap (λ (bits : List Bool). bits ++ parts.rest) (sym (join-append one two));
    }

pub message_spelled : (m : Message) (bytes : List ℕ) → IsMessage m bytes → IsCompleteSpelling m bytes
message_spelled (messages.Movement m) bytes x =
    let parts = parts_of track_packet (inl (m.time, (m.ack, m.lrbg))) m.packets bytes x.middle x.end x.first x.packets in
    record { rest = parts.rest; allowed = parts.allowed; over = parts.over; are = parts.are; complete = x.complete }
message_spelled (messages.Position m) bytes x =
    let parts = parts_of train_packet (inr (m.time, m.engine)) m.packets bytes x.middle x.end x.first x.packets in
    record { rest = parts.rest; allowed = parts.allowed; over = parts.over; are = parts.are; complete = x.complete }

-- L_MESSAGE counts 1,023 bytes at most
few_bytes : (n : ℕ) (m : Message) → AreAllowed (message_rows n m) → n ≤ 1023
unfolding alone
few_bytes n (messages.Movement m) allowed = omega (arith, allowed.1.0.0)
few_bytes n (messages.Position m) allowed = omega (arith, allowed.1.0.0)

pub never_too_big : (m : Message) (bytes : List ℕ) → IsMessage m bytes → IsTooBig m → ⊥
never_too_big m bytes x big =
    let parts = message_spelled m bytes x in
    let few = few_bytes (length bytes) m parts.allowed in
    omega (arith, big, few, ap length parts.are, length-append (join (message_rows (length bytes) m)) parts.rest, message_width (length bytes) m, length-bits_of_bytes bytes)

-- ---- encodings

-- the number of bits in an encoding
encoding_fits : (m : Message) (bytes : List ℕ) → IsEncoding m bytes → used_bits m ≤ 8 * length bytes
encoding_fits m bytes x =
    let k = 8 * length bytes - used_bits m in
    omega (arith, ap length x.canonical, length-append (join (message_rows (length bytes) m)) (replicate k false), length-replicate k false, message_width (length bytes) m, length-bits_of_bytes bytes)

encoding_spelled : (m : Message) (bytes : List ℕ) → IsEncoding m bytes → IsCompleteSpelling m bytes
encoding_spelled m bytes x =
    let k = 8 * length bytes - used_bits m in
    record {
      rest = replicate k false;
      allowed = x.allowed;
      over = inl (omega (arith, length-replicate k false, x.few));
      are = x.canonical;
      complete = x.complete;
    }

pub encoding_message : (m : Message) (bytes : List ℕ) → IsEncoding m bytes → IsMessage m bytes
encoding_message m bytes x = spelled_message m bytes (encoding_spelled m bytes x)

-- bytes with equal bits are equal
bytes_same : (xs ys : List ℕ) → IsBytes xs → IsBytes ys → bits_of_bytes xs ≡ bits_of_bytes ys → xs ≡ ys
bytes_same [] [] a b e = refl
bytes_same [] (y ∷ ys) a b e = absurd (omega (arith, ap length e, length-bits_of_bytes [], length-bits_of_bytes (y ∷ ys)))
bytes_same (x ∷ xs) [] a b e = absurd (omega (arith, ap length e, length-bits_of_bytes [], length-bits_of_bytes (x ∷ xs)))
bytes_same (x ∷ xs) (y ∷ ys) a b e =
    let both : num 8 x ++ bits_of_bytes xs ≡ num 8 y ++ bits_of_bytes ys = sym (bits_of_bytes-cons x xs) ∙ e ∙ bits_of_bytes-cons y ys in
    let first : num 8 x ≡ num 8 y = sym (take_at (num 8 x) (bits_of_bytes xs) 8 (length-num 8 x)) ∙ ap (take 8) both ∙ take_at (num 8 y) (bits_of_bytes ys) 8 (length-num 8 y) in
    let rest : bits_of_bytes xs ≡ bits_of_bytes ys = sym (drop_at (num 8 x) (bits_of_bytes xs) 8 (length-num 8 x)) ∙ ap (drop 8) both ∙ drop_at (num 8 y) (bits_of_bytes ys) 8 (length-num 8 y) in
    let same : x ≡ y = sym (num_of_bits-small 8 x (a 0)) ∙ ap num_of_bits first ∙ num_of_bits-small 8 y (b 0) in
    ap₂ ◌∷◌ same (bytes_same xs ys (λ i. a (suc i)) (λ i. b (suc i)) rest)

pub one_encoding : (m : Message) (a b : List ℕ) → IsEncoding m a → IsEncoding m b → a ≡ b
one_encoding m a b x y =
    let fits = encoding_fits m a x in
    let fits_too = encoding_fits m b y in
    let count : length a ≡ length b = omega (arith, fits, fits_too, x.few, y.few) in
    bytes_same a b x.in_range y.in_range
    (x.canonical ∙ ap (λ (n : ℕ). join (message_rows n m) ++ replicate (8 * n - used_bits m) false) count ∙ sym y.canonical)

pub one_message : (m k : Message) (bytes : List ℕ) → IsEncoding m bytes → IsEncoding k bytes → m ≡ k
one_message m k bytes x y =
    let a = message_meant m bytes (encoding_message m bytes x) in
    let b = message_meant k bytes (encoding_message k bytes y) in
    let same = sym a ∙ b in
    cc
