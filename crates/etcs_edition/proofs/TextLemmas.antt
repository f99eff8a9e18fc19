-- Texts of telegrams by the edition are those of the codecs.
use Rattle.std.proofs.Common.{◌≡◌, ℕ, ◌+◌, ◌-◌, ◌*◌, ◌<◌, Bool, false, List, [], ◌∷◌, ◌++◌, length, take, drop, replicate, refl, sym, ap, subst, ◌∙◌, arith}
use Rattle.std.proofs.lemmas.List.{length-append, length-replicate, take-append-drop}
use Rattle.std.proofs.Math.Seq.{take-append_seam, drop-append_seam}
use Rattle.etcs_bits.specs.bits.Number.{bits_of_bytes as working_bits}
use Rattle.etcs_bits.proofs.NumberLemmas.{length-bits_of_bytes}
use Rattle.etcs_telegram.specs.declared.size.Size.{Size}
use Rattle.etcs_telegram.specs.declared.size.Size.TheVariants.{Short, Long}
use Rattle.etcs_telegram.specs.Record.{Telegram}
use Rattle.etcs_telegram.specs.Sizes.{user_bits as counted_bits, byte_count, pad_count}
use Rattle.etcs_telegram.specs.Telegram.{IsTelegram as IsDecodedTelegram}
use Rattle.etcs_telegram.specs.Text.{IsTelegramText as IsDecodedTelegramText}
use Rattle.etcs_edition.specs.Wire.{bits_of_bytes}
use Rattle.etcs_edition.specs.Telegram.{user_bits, IsTelegramText}
use Rattle.etcs_edition.proofs.AgreeLemmas.{same_num}
use Rattle.etcs_edition.proofs.TelegramLemmas.{same_size, read_telegram, telegram_read}

pub same_bytes : (bytes : List ℕ) → working_bits bytes ≡ bits_of_bytes bytes
unfolding working_bits
same_bytes [] = refl
same_bytes (b ∷ bytes) = rw (same_num 8 b, same_bytes bytes) refl

pub byte_number : (size : Size) (n : ℕ) → 8 * n ≡ user_bits size + (n * 8 - user_bits size) → n * 8 < user_bits size + 8
    → n ≡ byte_count size
byte_number Short n all few = omega (arith, all, few)
byte_number Long n all few = omega (arith, all, few)

pub pad_number : (size : Size) → byte_count size * 8 - user_bits size ≡ pad_count size
pad_number Short = refl
pad_number Long = refl

pub few_bits : (size : Size) → byte_count size * 8 < user_bits size + 8
few_bits Short = omega arith
few_bits Long = omega arith

-- a list of n elements, and others after it
pub first_of : (n : ℕ) (xs ys : List Bool) → length xs ≡ n → take n (xs ++ ys) ≡ xs
first_of n xs ys count = subst (λ k. take k (xs ++ ys) ≡ xs) count (take-append_seam xs ys)

pub others_of : (n : ℕ) (xs ys : List Bool) → length xs ≡ n → drop n (xs ++ ys) ≡ ys
others_of n xs ys count = subst (λ k. drop k (xs ++ ys) ≡ ys) count (drop-append_seam xs ys)

pub text_read : (t : Telegram) (text : List ℕ) → IsTelegramText t text → IsDecodedTelegramText t text
text_read t text y =
    let pads = replicate (length y.bytes * 8 - user_bits t.size) false in
    let whole : working_bits y.bytes ≡ y.bits ++ pads = same_bytes y.bytes ∙ y.padded in
    let n = counted_bits t.size in
    let bits : length y.bits ≡ n = y.telegram.count ∙ sym (same_size t.size) in
    let all : 8 * length y.bytes ≡ user_bits t.size + (length y.bytes * 8 - user_bits t.size) =
    sym (length-bits_of_bytes y.bytes) ∙ ap length whole ∙ length-append y.bits pads
    ∙ rw (y.telegram.count, length-replicate (length y.bytes * 8 - user_bits t.size) false) refl in
    let count = byte_number t.size (length y.bytes) all y.whole in
    let first : y.bits ≡ take n (working_bits y.bytes) =
    sym (first_of n y.bits pads bits) ∙ ap (take n) (sym whole) in
    record {
      bytes = y.bytes;
      decoded = y.decoded;
      padded = record {
        count = count;
        padding =
            ap (drop n) whole ∙ others_of n y.bits pads bits
            ∙ ap (λ n. replicate (n * 8 - user_bits t.size) false) count
            ∙ ap (λ n. replicate n false) (pad_number t.size);
      };
      telegram = subst (λ (bits : List Bool). IsDecodedTelegram t bits) first (telegram_read t y.bits y.telegram);
    }

pub read_text : (t : Telegram) (text : List ℕ) → IsDecodedTelegramText t text → IsTelegramText t text
read_text t text x =
    let n = counted_bits t.size in
    let count = x.padded.count in
    let pads : replicate (pad_count t.size) false ≡ replicate (length x.bytes * 8 - user_bits t.size) false =
    rw (count, pad_number t.size) refl in
    record {
      bytes = x.bytes;
      bits = take n (working_bits x.bytes);
      decoded = x.decoded;
      padded =
          sym (same_bytes x.bytes) ∙ sym (take-append-drop n (working_bits x.bytes))
          ∙ ap (λ (xs : List Bool). take n (working_bits x.bytes) ++ xs) (x.padded.padding ∙ pads);
      whole = rw count (few_bits t.size);
      telegram = read_telegram t (take n (working_bits x.bytes)) x.telegram;
    }
