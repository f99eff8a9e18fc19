-- Pad bits, and canonical texts.
use Rattle.std.proofs.Common.{◌≡◌, ◌≢◌, ℕ, ◌+◌, ◌-◌, ◌*◌, ◌%◌, ◌^◌, ◌==◌, ◌<◌, ◌≤◌, if◌then◌else◌, Bool, true, false, List, [], ◌∷◌, ◌++◌, length, get_or, drop, replicate, Option, Some, None, Result, Ok, Err, refl, sym, ap, ap₂, subst, ◌∙◌, arith, length-append, length-drop}
use Rattle.std.proofs.Common.{String, Global, string_bytes}
use Rattle.std.specs.Prelude.{IfOk, OnOk}
use Rattle.std.proofs.lemmas.Bool.{eqb-true, eqb-false}
use Rattle.std.proofs.lemmas.List.{drop-drop, drop_more, drop_all, length-replicate}
use Rattle.hex.specs.Hex.{encode_lower, IsBytes}
use Rattle.etcs_bits.specs.bits.Number.{num, num_of_bits, bits_of_bytes}
use Rattle.etcs_bits.proofs.NumberLemmas.{length-num, num_of_bits-small, num_of_bits-drop, same_from_num, drop-bits_of_bytes, bits_of_one, length-bits_of_bytes}
use Rattle.etcs_telegram.specs.declared.error.EncodeError.{EncodeError}
use Rattle.etcs_telegram.specs.declared.size.Size.{Size}
use Rattle.etcs_telegram.specs.declared.size.Size.TheVariants.{Short, Long}
use Rattle.etcs_telegram.specs.Record.{Telegram}
use Rattle.etcs_telegram.specs.Sizes.{user_bits, byte_count, pad_count}
use Rattle.etcs_telegram.specs.TextMeaning.{size_from_bytes, pads_with_zeros}
use Rattle.etcs_telegram.specs.Telegram.{IsEncoding, IsTelegram}
use Rattle.etcs_telegram.specs.Text.{take_pad_bits, take_user_bits, no_pads, ArePadded, HavePadSet, IsCanonicalText}
use Rattle.etcs_telegram.proofs.TelegramLemmas.{canonical_length}

-- ---- sizes

-- the user bits end in the last byte, with the pad bits after them
pub whole_bytes : (size : Size) → user_bits size + pad_count size ≡ 8 * byte_count size
whole_bytes Short = refl
whole_bytes Long = refl

pub few_pads : (size : Size) → pad_count size < 8
few_pads Short = omega arith
few_pads Long = omega arith

pub some_bytes : (size : Size) → 1 ≤ byte_count size
some_bytes Short = omega arith
some_bytes Long = omega arith

pub size_in_back : (size : Size) → size_from_bytes (byte_count size) ≡ Some size
size_in_back Short = refl
size_in_back Long = refl

abbrev Counts : ℕ → Option Size → Type 0
Counts n None = (size : Size) → n ≢ byte_count size
Counts n (Some size) = n ≡ byte_count size

no_count : (n : ℕ) → n == 27 ≡ false → n == 104 ≡ false → (size : Size) → n ≢ byte_count size
no_count n other others Short = eqb-false n 27 other
no_count n other others Long = eqb-false n 104 others

counts_by : (n : ℕ) (short long : Bool) → n == 27 ≡ short → n == 104 ≡ long
    → Counts n (if short then Some Short else (if long then Some Long else None))
counts_by n true long is other = eqb-true n 27 is
counts_by n false true other is = eqb-true n 104 is
counts_by n false false other others = no_count n other others

counts : (n : ℕ) → Counts n (size_from_bytes n)
counts n = counts_by n (n == 27) (n == 104) refl refl

pub size_counts : (n : ℕ) (size : Size) → size_from_bytes n ≡ Some size → n ≡ byte_count size
size_counts n size is = let c = counts n in rw is at c

pub none_counts : (n : ℕ) → size_from_bytes n ≡ None → (size : Size) → n ≢ byte_count size
none_counts n is = let c = counts n in rw is at c

-- ---- pad bits

-- the bits after the first `keep` bits of the last byte
last_bits : (bytes : List ℕ) (front keep : ℕ) → length bytes ≡ front + 1
    → drop (8 * front + keep) (bits_of_bytes bytes) ≡ drop keep (num 8 (get_or bytes front 0))
last_bits bytes front keep count =
    let b = get_or bytes front 0 in
    let one : drop front bytes ≡ b ∷ [] = drop_more bytes front 0 (omega arith) ∙ ap (λ bs. b ∷ bs) (drop_all (front + 1) bytes (omega arith)) in
    sym (drop-drop keep (8 * front) (bits_of_bytes bytes)) ∙ ap (drop keep) (drop-bits_of_bytes front bytes ∙ ap bits_of_bytes one ∙ bits_of_one b)

abbrev last : Size → List ℕ → ℕ
last size bytes = get_or bytes (byte_count size - 1) 0

-- the pad bits are the last bits of the last byte
pad_bits : (size : Size) (bytes : List ℕ) → length bytes ≡ byte_count size
    → take_pad_bits size bytes ≡ drop (8 - pad_count size) (num 8 (last size bytes))
pad_bits size bytes count =
    let whole = whole_bytes size in
    let few = few_pads size in
    let some = some_bytes size in
    let place : user_bits size ≡ 8 * (byte_count size - 1) + (8 - pad_count size) = omega arith in
    ap (λ n. drop n (bits_of_bytes bytes)) place ∙ last_bits bytes (byte_count size - 1) (8 - pad_count size) (omega arith)

pad_length : (size : Size) (b : ℕ) → length (drop (8 - pad_count size) (num 8 b)) ≡ pad_count size
pad_length size b =
    let few = few_pads size in
    length-drop (8 - pad_count size) (num 8 b) ∙ ap (λ n. n - (8 - pad_count size)) (length-num 8 b) ∙ omega arith

pad_number : (size : Size) (b : ℕ) → b < 256 → num_of_bits (drop (8 - pad_count size) (num 8 b)) ≡ b % 2 ^ pad_count size
pad_number size b small =
    num_of_bits-drop (8 - pad_count size) (num 8 b) ∙ ap₂ (λ n k. n % 2 ^ k) (num_of_bits-small 8 b small) (pad_length size b)

no_number : (size : Size) → num_of_bits (no_pads size) ≡ 0
unfolding num_of_bits
no_number Short = refl
no_number Long = refl

pub pads_are_zeros : (size : Size) (bytes : List ℕ) → length bytes ≡ byte_count size → last size bytes < 256
    → last size bytes % 2 ^ pad_count size ≡ 0 → take_pad_bits size bytes ≡ no_pads size
pads_are_zeros size bytes count small zero =
    let b = last size bytes in
    pad_bits size bytes count
    ∙ same_from_num (drop (8 - pad_count size) (num 8 b)) (no_pads size) (pad_length size b ∙ sym (length-replicate (pad_count size) false)) (pad_number size b small ∙ zero ∙ sym (no_number size))

-- pad bits that are zeros end the last byte
pub pads_divide : (size : Size) (bytes : List ℕ) → length bytes ≡ byte_count size → last size bytes < 256
    → take_pad_bits size bytes ≡ no_pads size → last size bytes % 2 ^ pad_count size ≡ 0
pads_divide size bytes count small zeros =
    sym (pad_number size (last size bytes) small) ∙ ap num_of_bits (sym (pad_bits size bytes count) ∙ zeros) ∙ no_number size

-- if the pad bits are zeros, the bytes are padded; if not, a pad bit is set
pub padded_when : (size : Size) (bytes : List ℕ) → length bytes ≡ byte_count size → last size bytes < 256
    → pads_with_zeros size bytes ≡ true → ArePadded size bytes
padded_when size bytes count small zero = record {
  count = count;
  padding = pads_are_zeros size bytes count small (eqb-true _ _ zero);
}

pub set_when : (size : Size) (bytes : List ℕ) → length bytes ≡ byte_count size → last size bytes < 256
    → pads_with_zeros size bytes ≡ false → HavePadSet bytes
set_when size bytes count small other = record {
  size = size;
  count = count;
  set = λ zeros. eqb-false _ _ other (pads_divide size bytes count small zeros);
}

-- ---- the telegram in bytes

same_size : (a b : Size) → user_bits a ≡ user_bits b → a ≡ b
same_size Short Short e = refl
same_size Short Long e = absurd (omega (arith, e))
same_size Long Short e = absurd (omega (arith, e))
same_size Long Long e = refl

-- bytes of this size hold no telegram of another size
pub of_its_size : (t : Telegram) (size : Size) (bits : List Bool) (bytes : List ℕ) → ArePadded size bytes
    → bits ≡ take_user_bits size bytes → length bits ≡ user_bits size → IsTelegram t bits
    → ArePadded t.size bytes × IsTelegram t (take_user_bits t.size bytes)
of_its_size t size bits bytes padded is count x =
    let same : size ≡ t.size = same_size size t.size (sym count ∙ x.count) in
    subst (λ (s : Size). ArePadded s bytes × IsTelegram t (take_user_bits s bytes)) same
    (padded, subst (λ (b : List Bool). IsTelegram t b) is x)

-- ---- the canonical text

-- if bytes contain the bits of a telegram, the remaining bits are zeros, the pad bits
pub zeros_left : (t : Telegram) (bits : List Bool) (bytes : List ℕ) → IsEncoding t bits
    → bits_of_bytes bytes ≡ bits ++ replicate (8 * length bytes - length bits) false
    → 8 * length bytes < length bits + 8 → bits_of_bytes bytes ≡ bits ++ no_pads t.size
zeros_left t bits bytes encoding holds few =
    let k = 8 * length bytes - length bits in
    let size : length bits ≡ user_bits t.size = ap length encoding.canonical ∙ canonical_length t encoding.fits in
    let count : 8 * length bytes ≡ length bits + k = sym (length-bits_of_bytes bytes) ∙ ap length holds ∙ length-append bits (replicate k false) ∙ ap (λ n. length bits + n) (length-replicate k false) in
    let whole = whole_bytes t.size in
    let pads = few_pads t.size in
    let left : k ≡ pad_count t.size = omega arith in
    holds ∙ ap (λ n. bits ++ replicate n false) left

-- the text of an encoding's bytes is the canonical text
pub canonical_text : (t : Telegram) (bits : List Bool) (bytes text : List ℕ) → IsEncoding t bits
    → bits_of_bytes bytes ≡ bits ++ replicate (8 * length bytes - length bits) false
    → 8 * length bytes < length bits + 8 → IsBytes bytes → text ≡ encode_lower bytes → IsCanonicalText t text
canonical_text t bits bytes text encoding holds few in_range written = record {
  bits = bits;
  encoding = encoding;
  bytes = bytes;
  in_range = in_range;
  padded = zeros_left t bits bytes encoding holds few;
  written = written;
}

-- what `to_hex` returns
pub written_text : (r : Result (String Global) EncodeError) (t : Telegram) (bits : List Bool) (bytes : List ℕ) → IsEncoding t bits
    → bits_of_bytes bytes ≡ bits ++ replicate (8 * length bytes - length bits) false → 8 * length bytes < length bits + 8
    → IfOk r (λ s. string_bytes s ≡ encode_lower bytes) → OnOk r (IsBytes bytes) → IfOk r (λ s. IsCanonicalText t (string_bytes s))
written_text (Ok s) t bits bytes encoding holds few written in_range = canonical_text t bits bytes (string_bytes s) encoding holds few in_range written
written_text (Err e) t bits bytes encoding holds few written in_range = tt
