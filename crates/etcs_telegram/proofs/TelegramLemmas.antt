-- What bits mean, and which bits are a telegram.
use Rattle.std.proofs.Common.{◌≡◌, ℕ, ◌+◌, ◌-◌, ◌≤◌, true, false, Bool, List, [], ◌++◌, length, replicate, Option, Some, None, Result, Ok, Err, refl, sym, ap, ◌∙◌, ◌==◌, ◌↔◌, ◌⊎◌, ◌<◌, inl, inr, if◌then◌else◌, arith, append_assoc}
use Rattle.std.specs.Prelude.{IsErrOf, IsSome}
use Rattle.std.specs.List.{flat_map}
use Rattle.std.proofs.lemmas.Bool.{eqb-true}
use Rattle.std.proofs.lemmas.List.{length-append}
use Rattle.etcs_bits.proofs.NumberLemmas.{length-num}
use Rattle.etcs_bits.proofs.StandLemmas.{length-join, place_in}
use Rattle.etcs_bits.specs.declared.layout.fault.DecodeError.{DecodeError}
use Rattle.etcs_bits.specs.declared.layout.fault.DecodeError.TheVariants as errors
use Rattle.etcs_bits.specs.bits.Number.{num}
use Rattle.etcs_bits.specs.layout.Rows.{alone, AreAllowed, join}
use Rattle.etcs_bits.specs.layout.Results.{Fails}
use Rattle.etcs_packet.specs.declared.stop.Stop.TheVariants as stops
use Rattle.etcs_profile.specs.declared.track.TrackPacket.{TrackPacket}
use Rattle.etcs_packet.specs.Laws.{HasNoMark}
use Rattle.etcs_packet.specs.Lists.{IsHeaded, ends}
use Rattle.etcs_profile.specs.Track.{track_packet}
use Rattle.etcs_packet.specs.Whole.{BeginsWith, start}
use Rattle.etcs_packet.specs.Reading.{read_first_whole}
use Rattle.etcs_packet.proofs.WholeLemmas.{whole_is_read, means_whole}
use Rattle.etcs_packet.proofs.WrittenLemmas.{ends_only, mark_ends, whole_spelled, whole_written}
use Rattle.etcs_telegram.specs.declared.error.EncodeError.{EncodeError}
use Rattle.etcs_telegram.specs.declared.error.EncodeError.TheVariants as encode_errors
use Rattle.etcs_telegram.specs.declared.header.Header.{Header}
use Rattle.etcs_telegram.specs.declared.size.Size.{Size}
use Rattle.etcs_telegram.specs.declared.size.Size.TheVariants.{Short, Long}
use Rattle.etcs_telegram.specs.Header.{header}
use Rattle.etcs_telegram.specs.Laws.{IsCompleteSpelling}
use Rattle.etcs_telegram.specs.Record.{Telegram}
use Rattle.etcs_telegram.specs.Sizes.{user_bits, size_from_bits}
use Rattle.etcs_telegram.specs.Telegram.{AreUserBits, IsTelegram, IsEncoding, IsTooBig, front_bits, canonical_bits, used_bits}
use Rattle.etcs_telegram.specs.Meaning.{short_or_long, read_telegram}
use Rattle.etcs_telegram.proofs.FillLemmas.{length-ones}

-- ---- sizes

abbrev Counts : ℕ → Option Size → Type 0
Counts n None = Unit {0}
Counts n (Some size) = (n ≡ user_bits size) × (short_or_long n ≡ size)

counts_by : (n : ℕ) (short long : Bool) → n == 210 ≡ short → n == 830 ≡ long
    → Counts n (if short then Some Short else (if long then Some Long else None))
counts_by n true long is other = (eqb-true n 210 is, rw is refl)
counts_by n false true other is = (eqb-true n 830 is, rw other refl)
counts_by n false false other others = tt

counts : (n : ℕ) → Counts n (size_from_bits n)
counts n = counts_by n (n == 210) (n == 830) refl refl

pub size_counts : (n : ℕ) (size : Size) → size_from_bits n ≡ Some size → n ≡ user_bits size
size_counts n size is = let c = counts n in let d = rw is at c in d.0

pub size_found : (n : ℕ) (size : Size) → size_from_bits n ≡ Some size → short_or_long n ≡ size
size_found n size is = let c = counts n in let d = rw is at c in d.1

pub size_back : (size : Size) → short_or_long (user_bits size) ≡ size
size_back Short = refl
size_back Long = refl

pub size_of_back : (size : Size) → size_from_bits (user_bits size) ≡ Some size
size_of_back Short = refl
size_of_back Long = refl

-- if some telegram has `n` bits, `n` is the number of user bits of its size
counts_some : (n : ℕ) (o : Option Size) → size_from_bits n ≡ o → IsSome o → n ≡ user_bits (short_or_long n)
counts_some n None is none = absurd cc
counts_some n (Some size) is some = size_counts n size is ∙ ap user_bits (sym (size_found n size is))

pub count_by : (n : ℕ) → IsSome (size_from_bits n) → n ≡ user_bits (short_or_long n)
count_by n some = counts_some n (size_from_bits n) refl some

pub few_bits : (size : Size) → user_bits size ≤ 830
few_bits Short = omega arith
few_bits Long = omega arith

-- ---- what bits mean

pub headed : IsHeaded track_packet.fields
headed = (refl, refl)

pub no_mark : HasNoMark track_packet.fields
no_mark = refl

-- a header and packets at the front are read
pub begins_meaning : (h : Header) (packets : List TrackPacket) (bits : List Bool)
    → BeginsWith stops.Telegram header.rows track_packet.rows h packets bits
    → read_first_whole stops.Telegram header.fields header.of track_packet.fields track_packet.of bits ≡ Ok (h, packets)
begins_meaning h packets bits b =
    means_whole stops.Telegram header.fields header.of track_packet.fields track_packet.of bits (h, packets) b.end
    (whole_is_read header.laid track_packet.laid stops.Telegram h packets (start bits) b.end headed (omega arith) b.whole)

-- a telegram made of these parts
abbrev pub made : Size → Header → List TrackPacket → Telegram
made size h packets = record { size = size; header = h; packets = packets }

-- bits that are a telegram are as many as some telegram has
pub telegram_bits : (t : Telegram) (bits : List Bool) → IsTelegram t bits → AreUserBits bits
telegram_bits t bits x = rw (x.count, size_of_back t.size) refl

pub telegram_meaning : (t : Telegram) (bits : List Bool) → IsTelegram t bits → read_telegram bits ≡ Ok t
unfolding read_telegram
telegram_meaning t bits x =
    let size : short_or_long (length bits) ≡ t.size = ap short_or_long x.count ∙ size_back t.size in
    rw (begins_meaning t.header t.packets bits x.begins) (ap (λ (s : Size). Ok (made s t.header t.packets)) size)

-- a header and packets that were read, with their size, are what the bits mean
pub read_meaning : (h : Header) (packets : List TrackPacket) (size : Size) (bits : List Bool)
    → size_from_bits (length bits) ≡ Some size
    → read_first_whole stops.Telegram header.fields header.of track_packet.fields track_packet.of bits ≡ Ok (h, packets)
    → read_telegram bits ≡ Ok (made size h packets)
unfolding read_telegram
read_meaning h packets size bits found read =
    rw read (ap (λ (s : Size). Ok (made s h packets)) (size_found (length bits) size found))

-- if reading fails, the bits mean that failure
pub failed_meaning : (e : DecodeError) (bits : List Bool)
    → Fails e (read_first_whole stops.Telegram header.fields header.of track_packet.fields track_packet.of bits)
    → Fails e (read_telegram bits)
unfolding read_telegram
failed_meaning errors.Memory bits fails = tt
failed_meaning (errors.Fault f) bits fails = rw fails refl

-- ---- encoding

pub header_width : (h : Header) → length (join (header.rows h)) ≡ 50
unfolding alone
header_width h = length-join (header.rows h)

-- the header, the packets and the end mark have `used_bits` bits
pub front_width : (t : Telegram) → length (front_bits t) ≡ used_bits t
front_width t =
    let packets = flat_map track_packet.rows t.packets in
    omega (
      arith,
      length-append (join (header.rows t.header)) (join packets ++ num 8 255),
      length-append (join packets) (num 8 255),
      header_width t.header,
      length-join packets,
      length-num 8 255,
    )

pub canonical_length : (t : Telegram) → used_bits t ≤ user_bits t.size → length (canonical_bits t) ≡ user_bits t.size
canonical_length t fits =
    let n = user_bits t.size - used_bits t in
    omega (arith, length-append (front_bits t) (replicate n true), length-ones n, front_width t)

-- the header, the packets and the end mark, written one after another
pub written_front : (t : Telegram) (none first second third : List Bool) → none ≡ []
    → first ≡ none ++ join (header.rows t.header) → second ≡ first ++ join (flat_map track_packet.rows t.packets)
    → third ≡ second ++ num 8 255 → third ≡ front_bits t
written_front t none first second third e f g h =
    let head_bits = join (header.rows t.header) in
    let packets = join (flat_map track_packet.rows t.packets) in
    h ∙ ap (λ (xs : List Bool). xs ++ num 8 255) (g ∙ ap (λ (xs : List Bool). xs ++ packets) (f ∙ ap (λ (xs : List Bool). xs ++ head_bits) e))
    ∙ append_assoc head_bits packets (num 8 255)

-- these bits, filled up with ones, are an encoding
pub is_encoding : (t : Telegram) (front bits : List Bool) → used_bits t ≤ user_bits t.size
    → AreAllowed (header.rows t.header) → AreAllowed (flat_map track_packet.rows t.packets) → front ≡ front_bits t
    → bits ≡ front ++ replicate (user_bits t.size - length front) true → IsEncoding t bits
is_encoding t front bits fits header packets is filled = record {
  fits = fits;
  header = header;
  packets = packets;
  canonical =
      filled ∙ ap (λ (xs : List Bool). xs ++ replicate (user_bits t.size - length xs) true) is
      ∙ ap (λ n. front_bits t ++ replicate (user_bits t.size - n) true) (front_width t);
}

-- bits that are spelled out are the telegram
pub spelled_telegram : (t : Telegram) (bits : List Bool) → IsCompleteSpelling t bits → IsTelegram t bits
spelled_telegram t bits x =
    let head_bits = join (header.rows t.header) in
    let packets = join (flat_map track_packet.rows t.packets) in
    let parts = x.are ∙ append_assoc head_bits (packets ++ num 8 255) x.fill ∙ ap (λ (xs : List Bool). head_bits ++ xs) (append_assoc packets (num 8 255) x.fill) in
    let whole = whole_written header.rows track_packet.rows t.header t.packets stops.Telegram track_packet.fields (num 8 255 ++ x.fill) bits headed no_mark track_packet.laid.are_rows x.header x.packets (mark_ends stops.Telegram x.fill) parts in
    record {
      count = x.count;
      begins = record { end = place_in bits (length head_bits + length packets); whole = whole };
    }

-- the end mark comes after the packets of a telegram
mark_of : (rest : List Bool) → ((stops.Telegram ≡ stops.Message) × (length rest < 8)) ⊎ ((fill : List Bool) × (rest ≡ num 8 255 ++ fill))
    → (fill : List Bool) × (rest ≡ num 8 255 ++ fill)
mark_of rest (inl few) = absurd (let other = few.0 in cc)
mark_of rest (inr mark) = mark

marked : (rest : List Bool) → ends stops.Telegram (start rest) ≡ true → (fill : List Bool) × (rest ≡ num 8 255 ++ fill)
marked rest over = mark_of rest (ends_only stops.Telegram rest over)

-- a telegram is spelled out
pub telegram_spelled : (t : Telegram) (bits : List Bool) → IsTelegram t bits → IsCompleteSpelling t bits
telegram_spelled t bits x =
    let head_bits = join (header.rows t.header) in
    let packets = join (flat_map track_packet.rows t.packets) in
    let parts = whole_spelled header.rows track_packet.rows t.header t.packets stops.Telegram bits x.begins in
    let mark = marked parts.rest parts.over in
    record {
      fill = mark.0;
      count = x.count;
      header = parts.first;
      packets = parts.items;
      are =
          parts.are ∙ ap (λ (xs : List Bool). head_bits ++ (packets ++ xs)) mark.1
          ∙ ap (λ (xs : List Bool). head_bits ++ xs) (sym (append_assoc packets (num 8 255) mark.0))
          ∙ sym (append_assoc head_bits (packets ++ num 8 255) mark.0);
    }

-- a telegram that is spelled out fits
spelled_fits : (t : Telegram) (bits : List Bool) → IsCompleteSpelling t bits → used_bits t ≤ user_bits t.size
spelled_fits t bits x = omega (arith, ap length x.are, length-append (front_bits t) x.fill, front_width t, x.count)

pub decoded_encoded : (t : Telegram) (bits : List Bool) → IsTelegram t bits → IsEncoding t (canonical_bits t)
decoded_encoded t bits x =
    let parts = telegram_spelled t bits x in
    record { fits = spelled_fits t bits parts; header = parts.header; packets = parts.packets; canonical = refl }

-- an encoding is the telegram
pub encoding_telegram : (t : Telegram) (bits : List Bool) → IsEncoding t bits → IsTelegram t bits
encoding_telegram t bits x =
    spelled_telegram t bits (record {
      fill = replicate (user_bits t.size - used_bits t) true;
      count = ap length x.canonical ∙ canonical_length t x.fits;
      header = x.header;
      packets = x.packets;
      are = x.canonical;
    })

-- if a telegram fits, the only possible error is lack of memory
pub only_memory : {X : Type 0} (r : Result X EncodeError) (t : Telegram) → used_bits t ≤ user_bits t.size
    → r ≡ Err encode_errors.Memory → IsErrOf r encode_errors.TooBig ↔ IsTooBig t
only_memory r t fits is = (
  λ given. absurd (let both = sym is ∙ given in cc),
  λ big. absurd (omega (arith, fits, big)),
)
