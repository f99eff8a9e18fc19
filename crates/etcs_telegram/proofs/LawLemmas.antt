-- Telegrams, their bits and their texts match each other.
use Rattle.std.proofs.Common.{◌≡◌, ℕ, suc, ◌+◌, ◌*◌, ◌-◌, Bool, true, false, List, [], ◌∷◌, ◌++◌, length, take, drop, if◌then◌else◌, Option, Some, None, Ok, refl, sym, ap, ap₂, subst, ◌∙◌, arith, length-append, Result, Err}
use Rattle.std.proofs.lemmas.Bool.{eq-eqb}
use Rattle.std.proofs.lemmas.List.{take_at, drop_at, length-take-le, length-replicate}
use Rattle.hex.specs.Hex.{decode_of, encode_lower, IsBytes}
use Rattle.hex.specs.declared.error.FromHexError.{FromHexError}
use Rattle.hex.proofs.HexLemmas.{decode_of-ok, decode_of-encode_lower}
use Rattle.etcs_bits.specs.bits.Number.{num, num_of_bits, bits_of_bytes}
use Rattle.etcs_bits.proofs.NumberLemmas.{length-num, num_of_bits-small, bits_of_bytes-cons, length-bits_of_bytes}
use Rattle.etcs_bits.specs.declared.layout.fault.Fault.{Fault}
use Rattle.etcs_bits.specs.layout.Reading.{◌>>=◌}
use Rattle.etcs_bits.proofs.BindLemmas.{ok_is}
use Rattle.etcs_bits.specs.layout.Rows.{Place}
use Rattle.etcs_packet.specs.declared.stop.Stop.TheVariants as stops
use Rattle.etcs_profile.specs.declared.track.TrackPacket.{TrackPacket}
use Rattle.etcs_profile.specs.Track.{track_packet}
use Rattle.etcs_packet.specs.Whole.{start}
use Rattle.etcs_packet.specs.Reading.{read_whole, read_first_whole}
use Rattle.etcs_packet.proofs.WholeLemmas.{none_whole, read_is_whole, whole_fault_is_read, read_is_whole_fault}
use Rattle.etcs_telegram.specs.declared.header.Header.{Header}
use Rattle.etcs_telegram.specs.Header.{header}
use Rattle.etcs_telegram.specs.declared.error.TextError.TheVariants as errors
use Rattle.etcs_telegram.specs.declared.size.Size.{Size}
use Rattle.etcs_telegram.specs.Record.{Telegram}
use Rattle.etcs_telegram.specs.Sizes.{user_bits, byte_count, pad_count}
use Rattle.etcs_telegram.specs.TextMeaning.{size_from_bytes, of_bits, of_size, of_bytes, of_decoded, telegram_of_text, pads_with_zeros}
use Rattle.etcs_telegram.specs.Telegram.{AreUserBits, IsTelegram, IsTelegramFault, IsNoTelegram}
use Rattle.etcs_telegram.specs.Meaning.{short_or_long, sized_telegram, read_telegram}
use Rattle.etcs_telegram.specs.Text.{IsTelegramText, IsCanonicalText, ArePadded, take_user_bits, no_pads}
use Rattle.etcs_telegram.proofs.TelegramLemmas.{headed, made, count_by, size_of_back, telegram_meaning, encoding_telegram, canonical_length}
use Rattle.etcs_telegram.proofs.TextLemmas.{size_in_back, size_counts, whole_bytes, pads_divide, padded_when, of_its_size}

-- bits are decoded to one telegram only
pub one_meaning : (t u : Telegram) (bits : List Bool) → read_telegram bits ≡ Ok t → read_telegram bits ≡ Ok u → t ≡ u
one_meaning t u bits a b = let same = sym a ∙ b in cc

-- ---- what is read

-- reading a header and its packets
abbrev read_at : List Bool → Result ((Header × List TrackPacket) × Place) Fault
read_at bits = read_whole stops.Telegram header.fields header.of track_packet.fields track_packet.of (start bits)

-- what reading gives, without the place
abbrev given : ℕ → Result ((Header × List TrackPacket) × Place) Fault → Result Telegram Fault
given n read = sized_telegram n (read >>= λ r. Ok r.0)

meant : (bits : List Bool) → read_telegram bits ≡ given (length bits) (read_at bits)
unfolding read_telegram read_first_whole
meant bits = refl

-- what reading gives, if that is a telegram
record IsGivenOf (n : ℕ) (t : Telegram) (r : Result ((Header × List TrackPacket) × Place) Fault) : Type 0 where
  pub size : short_or_long n ≡ t.size
  pub end : Place
  pub read : r ≡ Ok ((t.header, t.packets), end)

given_of : (n : ℕ) (t : Telegram) (r : Result ((Header × List TrackPacket) × Place) Fault)
    → given n r ≡ Ok t → IsGivenOf n t r
given_of n t (Ok read) is =
    let same = ok_is (made (short_or_long n) read.0.0 read.0.1) t is in
    subst (λ u. IsGivenOf n u (Ok read)) same (record { size = refl; end = read.1; read = refl })
given_of n t (Err f) is = absurd cc

-- bits that mean a telegram are that telegram, if some telegram has that many bits
pub means_telegram : (t : Telegram) (bits : List Bool) → AreUserBits bits → read_telegram bits ≡ Ok t → IsTelegram t bits
means_telegram t bits count is =
    let x = given_of (length bits) t (read_at bits) (sym (meant bits) ∙ is) in
    record {
      count = count_by (length bits) count ∙ ap user_bits x.size;
      begins = record {
        end = x.end;
        whole = read_is_whole header.laid track_packet.laid stops.Telegram t.header t.packets (start bits) x.end headed (omega arith) x.read;
      };
    }

-- ---- faults

only_fault : (n : ℕ) (r : Result ((Header × List TrackPacket) × Place) Fault) (f : Fault) → given n r ≡ Err f → r ≡ Err f
only_fault n (Ok read) f is = absurd cc
only_fault n (Err g) f is = let same : g ≡ f = cc in ap Err same

pub fault_meant : (bits : List Bool) (f : Fault) → IsTelegramFault bits f → read_telegram bits ≡ Err f
fault_meant bits f x =
    let read = whole_fault_is_read header.of track_packet.of stops.Telegram header.fields track_packet.fields (start bits) f headed (omega arith) x in
    meant bits ∙ ap (given (length bits)) read

pub meant_fault : (bits : List Bool) (f : Fault) → read_telegram bits ≡ Err f → IsTelegramFault bits f
meant_fault bits f is =
    read_is_whole_fault header.of track_packet.of stops.Telegram header.fields track_packet.fields (start bits) f (omega arith)
    (only_fault (length bits) (read_at bits) f (sym (meant bits) ∙ is))

pub fault_none : (bits : List Bool) (f : Fault) → IsTelegramFault bits f → IsNoTelegram bits f
fault_none bits f x =
    none_whole header.laid track_packet.laid stops.Telegram (start bits) f headed (omega arith) x

-- ---- texts

of_bits_ok : (r : Result Telegram Fault) (t : Telegram) → of_bits r ≡ Ok t → r ≡ Ok t
of_bits_ok (Ok u) t is = let same : u ≡ t = cc in ap Ok same
of_bits_ok (Err f) t is = absurd cc

-- padded bytes mean what their user bits mean
pub padded_means : (size : Size) (bytes : List ℕ) → IsBytes bytes → ArePadded size bytes
    → of_bytes bytes ≡ of_bits (read_telegram (take_user_bits size bytes))
padded_means size bytes in_range x =
    let sized : size_from_bytes (length bytes) ≡ Some size = ap size_from_bytes x.count ∙ size_in_back size in
    let zeros : pads_with_zeros size bytes ≡ true = eq-eqb _ _ (pads_divide size bytes x.count (in_range (byte_count size - 1)) x.padding) in
    rw (sized, zeros) refl

pub text_meaning : (t : Telegram) (text : List ℕ) → IsTelegramText t text → telegram_of_text text ≡ Ok t
unfolding telegram_of_text
text_meaning t text x =
    let means = padded_means t.size x.bytes (decode_of-ok text x.bytes x.decoded).3 x.padded in
    rw x.decoded (means ∙ ap of_bits (telegram_meaning t (take_user_bits t.size x.bytes) x.telegram))

-- the number of user bits, in as many bytes as a telegram of this size has
user_bits_count : (size : Size) (bytes : List ℕ) → length bytes ≡ byte_count size → length (take_user_bits size bytes) ≡ user_bits size
user_bits_count size bytes count =
    let whole = whole_bytes size in
    length-take-le (user_bits size) (bits_of_bytes bytes) (omega (arith, length-bits_of_bytes bytes))

-- the pad bits were checked, and then the user bits were read
read_in : (t : Telegram) (size : Size) (bytes : List ℕ) (zeros : Bool) → pads_with_zeros size bytes ≡ zeros
    → (if zeros then of_bits (read_telegram (take_user_bits size bytes)) else Err errors.PadBits) ≡ Ok t
    → (pads_with_zeros size bytes ≡ true) × (read_telegram (take_user_bits size bytes) ≡ Ok t)
read_in t size bytes true zeros is = (zeros, of_bits_ok (read_telegram (take_user_bits size bytes)) t is)
read_in t size bytes false zeros is = absurd cc

sized_means : (t : Telegram) (bytes : List ℕ) (o : Option Size) → IsBytes bytes → size_from_bytes (length bytes) ≡ o
    → of_size o bytes ≡ Ok t → ArePadded t.size bytes × IsTelegram t (take_user_bits t.size bytes)
sized_means t bytes None in_range sized is = absurd cc
sized_means t bytes (Some size) in_range sized is =
    let read = read_in t size bytes (pads_with_zeros size bytes) refl is in
    let count = size_counts (length bytes) size sized in
    let bits = user_bits_count size bytes count in
    let padded = padded_when size bytes count (in_range (byte_count size - 1)) read.0 in
    let some : AreUserBits (take_user_bits size bytes) = rw (bits, size_of_back size) refl in
    of_its_size t size (take_user_bits size bytes) bytes padded refl bits (means_telegram t (take_user_bits size bytes) some read.1)

decoded_means : (t : Telegram) (text : List ℕ) (d : Result (List ℕ) FromHexError) → decode_of text ≡ d
    → of_decoded d ≡ Ok t → IsTelegramText t text
decoded_means t text (Ok bytes) decoded is =
    let parts = sized_means t bytes (size_from_bytes (length bytes)) (decode_of-ok text bytes decoded).3 refl is in
    record { bytes = bytes; decoded = decoded; padded = parts.0; telegram = parts.1 }
decoded_means t text (Err e) decoded is = absurd cc

pub means_text : (t : Telegram) (text : List ℕ) → telegram_of_text text ≡ Ok t → IsTelegramText t text
unfolding telegram_of_text
means_text t text is = decoded_means t text (decode_of text) refl is

pub canonical_telegram_text : (t : Telegram) (text : List ℕ) → IsCanonicalText t text → IsTelegramText t text
canonical_telegram_text t text x =
    let size : length x.bits ≡ user_bits t.size = ap length x.encoding.canonical ∙ canonical_length t x.encoding.fits in
    let count : 8 * length x.bytes ≡ length x.bits + pad_count t.size = sym (length-bits_of_bytes x.bytes) ∙ ap length x.padded ∙ length-append x.bits (no_pads t.size) ∙ ap (λ n. length x.bits + n) (length-replicate (pad_count t.size) false) in
    let whole = whole_bytes t.size in
    let telegram : take_user_bits t.size x.bytes ≡ x.bits = ap (take (user_bits t.size)) x.padded ∙ take_at x.bits (no_pads t.size) (user_bits t.size) size in
    record {
      bytes = x.bytes;
      decoded = ap decode_of x.written ∙ decode_of-encode_lower x.bytes x.in_range;
      padded = record { count = omega arith; padding = ap (drop (user_bits t.size)) x.padded ∙ drop_at x.bits (no_pads t.size) (user_bits t.size) size };
      telegram = subst (IsTelegram t) (sym telegram) (encoding_telegram t x.bits x.encoding);
    }

pub one_text_meaning : (t u : Telegram) (text : List ℕ) → telegram_of_text text ≡ Ok t → telegram_of_text text ≡ Ok u → t ≡ u
one_text_meaning t u text a b = let same = sym a ∙ b in cc

-- bytes with equal bits are equal
bytes_same : (xs ys : List ℕ) → IsBytes xs → IsBytes ys → bits_of_bytes xs ≡ bits_of_bytes ys → xs ≡ ys
bytes_same [] [] a b e = refl
bytes_same [] (y ∷ ys) a b e = absurd (omega (arith, ap length e, length-bits_of_bytes [], length-bits_of_bytes (y ∷ ys)))
bytes_same (x ∷ xs) [] a b e = absurd (omega (arith, ap length e, length-bits_of_bytes [], length-bits_of_bytes (x ∷ xs)))
bytes_same (x ∷ xs) (y ∷ ys) a b e =
    let both : num 8 x ++ bits_of_bytes xs ≡ num 8 y ++ bits_of_bytes ys = sym (bits_of_bytes-cons x xs) ∙ e ∙ bits_of_bytes-cons y ys in
    let first : num 8 x ≡ num 8 y = sym (take_at (num 8 x) (bits_of_bytes xs) 8 (length-num 8 x)) ∙ ap (take 8) both ∙ take_at (num 8 y) (bits_of_bytes ys) 8 (length-num 8 y) in
    let rest : bits_of_bytes xs ≡ bits_of_bytes ys = sym (drop_at (num 8 x) (bits_of_bytes xs) 8 (length-num 8 x)) ∙ ap (drop 8) both ∙ drop_at (num 8 y) (bits_of_bytes ys) 8 (length-num 8 y) in
    let same : x ≡ y = sym (num_of_bits-small 8 x (a 0)) ∙ ap num_of_bits first ∙ num_of_bits-small 8 y (b 0) in
    ap₂ ◌∷◌ same (bytes_same xs ys (λ i. a (suc i)) (λ i. b (suc i)) rest)

pub one_canonical_text : (t : Telegram) (a b : List ℕ) → IsCanonicalText t a → IsCanonicalText t b → a ≡ b
one_canonical_text t a b x y =
    let bits : x.bits ≡ y.bits = x.encoding.canonical ∙ sym y.encoding.canonical in
    let bytes : x.bytes ≡ y.bytes = bytes_same x.bytes y.bytes x.in_range y.in_range (x.padded ∙ ap (λ (b : List Bool). b ++ no_pads t.size) bits ∙ sym y.padded) in
    x.written ∙ ap encode_lower bytes ∙ sym y.written
