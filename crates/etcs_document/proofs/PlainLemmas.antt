-- No digit of a telegram or of a message needs an escape in a string.
use Rattle.std.proofs.Common.{◌≡◌, ℕ, ◌+◌, ◌*◌, ◌%◌, ◌==◌, Bool, true, false, if◌then◌else◌, List, [], ◌∷◌, length, Option, Some, None, is_some, Result, Ok, Err, refl, ap₂, arith}
use Rattle.std.specs.Prelude.{◌&&◌}
use Rattle.std.specs.List.{list_all}
use Rattle.std.proofs.lemmas.Bool.Decides.{nat_tests}
use Rattle.hex.specs.Hex.{◌>>=◌, decode_of, decode_pairs, digit_or_error, hex_digit_value, is_hex_digit}
use Rattle.hex.specs.declared.error.FromHexError.{FromHexError}
use Rattle.json.specs.Run.{is_plain}
use Rattle.etcs_radio.specs.TextMeaning as radio
use Rattle.etcs_radio.specs.TextMeaning.{message_of_text}
use Rattle.etcs_radio.specs.declared.message.Message.{Message}
use Rattle.etcs_telegram.specs.Record.{Telegram}
use Rattle.etcs_telegram.specs.TextMeaning.{of_decoded, telegram_of_text}

digit_plain : (c : ℕ) → is_hex_digit c ≡ true → is_plain c ≡ true
digit_plain c digit = grind (arith, nat_tests)

-- both digits of a pair are digits, and the rest is decoded
pair_read : (i h l : ℕ) (high low : Option ℕ) (rest : Result (List ℕ) FromHexError) (bytes : List ℕ)
    → ((digit_or_error h i high >>= λ a. digit_or_error l (i + 1) low >>= λ b. Ok (a * 16 + b)) >>= λ byte. rest >>= λ bs. Ok (byte ∷ bs)) ≡ Ok bytes
    → (is_some high ≡ true) × (is_some low ≡ true) × ((bs : List ℕ) × (rest ≡ Ok bs))
pair_read i h l None low rest bytes is = absurd (cc)
pair_read i h l (Some a) None rest bytes is = absurd (cc)
pair_read i h l (Some a) (Some b) (Err e) bytes is = absurd (cc)
pair_read i h l (Some a) (Some b) (Ok bs) bytes is = (refl, refl, (bs, refl))

pairs_plain : (i : ℕ) (text bytes : List ℕ) → decode_pairs i text ≡ Ok bytes → list_all is_plain text ≡ true
unfolding decode_pairs
pairs_plain i [] bytes is = refl
pairs_plain i (d ∷ []) bytes is = absurd (cc)
pairs_plain i (h ∷ l ∷ rest) bytes is =
    let read = pair_read i h l (hex_digit_value h) (hex_digit_value l) (decode_pairs (i + 2) rest) bytes is in
    ap₂ ◌&&◌ (digit_plain h read.0) (ap₂ ◌&&◌ (digit_plain l read.1) (pairs_plain (i + 2) rest read.2.0 read.2.1))

digits_plain : (text bytes : List ℕ) → decode_of text ≡ Ok bytes → list_all is_plain text ≡ true
digits_plain text bytes is = go (length text % 2 == 1) is
  where
    go : (odd : Bool) → (if odd then Err FromHexError.OddLength else decode_pairs 0 text) ≡ Ok bytes → list_all is_plain text ≡ true
    go true no_text = absurd (cc)
    go false read = pairs_plain 0 text bytes read

text_plain : {X E : Type 0} (of : Result (List ℕ) FromHexError → Result X E) (x : X) (text : List ℕ) → ((e : FromHexError) → of (Err e) ≡ Ok x → ⊥)
    → (r : Result (List ℕ) FromHexError) → decode_of text ≡ r → of r ≡ Ok x → list_all is_plain text ≡ true
text_plain of x text bad (Ok bytes) read means = digits_plain text bytes read
text_plain of x text bad (Err e) read means = absurd (bad e means)

pub telegram_plain : (text : List ℕ) (t : Telegram) → telegram_of_text text ≡ Ok t → list_all is_plain text ≡ true
unfolding telegram_of_text
telegram_plain text t is = text_plain of_decoded t text (λ e means. cc) (decode_of text) refl is

pub message_plain : (text : List ℕ) (m : Message) → message_of_text text ≡ Ok m → list_all is_plain text ≡ true
unfolding message_of_text
message_plain text m is = text_plain radio.of_decoded m text (λ e means. cc) (decode_of text) refl is
