-- The words of a refusal are the words for what was read.
use Rattle.std.proofs.Common.{◌≡◌, ◌≢◌, ◌↔◌, ◌++◌, ◌∙◌, ◌<◌, ◌≤◌, ℕ, Bool, true, false, List, codes, Some, None, Result, Ok, Err, refl, sym, ap, subst, arith, if◌then◌else◌, nat_lt}
use Rattle.std.specs.Prelude.{IsErr, IsErrOf, IsUtf8}
use Rattle.std.specs.Str.{is_utf8}
use Rattle.std.proofs.lemmas.Bool.{le-ltb, lt-ltb, ltb-true}
use Rattle.std.proofs.lemmas.Str.{IsUtf8-from_is_utf8, is_utf8-from_IsUtf8}
use Rattle.serde_json.specs.Data.{Data}
use Rattle.serde_json.specs.Read.{read}
use Rattle.etcs_bits.specs.declared.layout.fault.Fault.{Fault as BitFault}
use Rattle.etcs_radio.specs.declared.message.Message.{Message}
use Rattle.etcs_radio.specs.Message.{IsTooBig as IsMessageTooBig, used_bits as message_bits}
use Rattle.etcs_radio.specs.Text.{IsCanonicalText as IsMessageText}
use Rattle.etcs_radio.proofs.EncodeLemmas.{encoding_message, never_too_big}
use Rattle.etcs_schema.specs.Fault.{Fault, ReturnsError}
use Rattle.etcs_schema.specs.Codec.{Codec}
use Rattle.etcs_document.specs.Refusal.{line_words}
use Rattle.etcs_schema.specs.declared.error.FormError.{FormError}
use Rattle.etcs_schema.specs.declared.error.FormError.TheVariants as forms
use Rattle.etcs_document.specs.declared.refusal.LineFault.TheVariants.{Form, Json, Text, TooBig}
use Rattle.etcs_telegram.specs.Record.{Telegram}
use Rattle.etcs_telegram.specs.Sizes.{user_bits}
use Rattle.etcs_telegram.specs.Telegram.{IsTooBig, used_bits}
use Rattle.etcs_telegram.specs.Text.{HasHeaderFault, IsCanonicalText, IsReasonDecoded, TextFails}
use Rattle.etcs_digits.specs.Hexadecimal.{IsHexadecimal}
use Rattle.etcs_telegram.specs.declared.error.TextError.{TextError}
use Rattle.etcs_telegram.specs.declared.error.TextError.TheVariants as texts
use Rattle.etcs_run.specs.FormLines.{◌then◌, message_line, or_fault, or_no_json, parsed_record, telegram_line, text_unless, parsed_value}
use Rattle.etcs_run.specs.HexText.{message_text, telegram_text}
use Rattle.etcs_run.specs.TextLineMeaning.{Gives}
use Rattle.etcs_run.specs.TelegramLines.{IsEarly, telegram_json}
use Rattle.etcs_run.specs.declared.text_line_meaning.Unwritten.{Unwritten}
use Rattle.etcs_run.proofs.HexTextLemmas.{canonical_message, canonical_telegram}

-- a text that is refused, unless memory ran out, has this reason
pub text_refused : (why : TextError) (meaning : Result Telegram TextError) → why ≢ texts.Memory → TextFails why meaning
    → telegram_json meaning ≡ Err (line_words (Text why))
text_refused texts.Memory meaning other fails = absurd (other refl)
text_refused texts.NotHex meaning other fails = ap telegram_json fails
text_refused texts.WrongSize meaning other fails = ap telegram_json fails
text_refused texts.PadBits meaning other fails = ap telegram_json fails
text_refused (texts.Fault f) meaning other fails = ap telegram_json fails

-- a reason that is found before any packet is read is the one that is reported
pub refused_early : (result : Result Telegram TextError) (text : List ℕ) (why : TextError) → IsEarly why text
    → (IsErrOf result texts.NotHex ↔ (IsHexadecimal text → ⊥))
    → (IsErrOf result texts.WrongSize ↔ IsReasonDecoded texts.WrongSize text)
    → (IsErrOf result texts.PadBits ↔ IsReasonDecoded texts.PadBits text)
    → ((f : BitFault) → HasHeaderFault text f → result ≡ Err (texts.Fault f)) → result ≡ Err why
refused_early result text texts.Memory early not_hex wrong_size pad_bits header = absurd early
refused_early result text texts.NotHex early not_hex wrong_size pad_bits header = not_hex.1 early
refused_early result text texts.WrongSize early not_hex wrong_size pad_bits header = wrong_size.1 early
refused_early result text texts.PadBits early not_hex wrong_size pad_bits header = pad_bits.1 early
refused_early result text (texts.Fault f) early not_hex wrong_size pad_bits header = header f early

-- a form that is refused, unless memory ran out, has this fault, in the same words
pub form_refused : {X : Type 0} (why : FormError) (read : Result X Fault) → why ≢ forms.Memory → ReturnsError why read
    → or_fault read ≡ Err (line_words (Form why))
unfolding line_words
form_refused forms.Memory read other fails = absurd (other refl)
form_refused (forms.Missing path) read other fails = ap or_fault fails
form_refused (forms.Unknown path) read other fails = ap or_fault fails
form_refused (forms.Kind path) read other fails = ap or_fault fails
form_refused (forms.Range path) read other fails = ap or_fault fails

-- ---- the JSON value of a line

-- the bytes are UTF-8, and they are read
pub value_read : (line : List ℕ) (d : Data) → IsUtf8 line → read line ≡ Some d → parsed_value line ≡ Ok d
unfolding parsed_value
value_read line d utf8 is =
    ap (λ (b : Bool). if b then or_no_json (read line) else Err (line_words Json)) (is_utf8-from_IsUtf8 line utf8)
    ∙ ap or_no_json is

-- the line's record is the record of the text's value
pub text_read : {X : Type 0} (codec : Codec X) (line text : List ℕ) (d found : Data) → text ≡ line → IsUtf8 line → read text ≡ Some d → found ≡ d → parsed_record codec line ≡ or_fault (codec.of found)
text_read codec line text d found same utf8 is shown =
    ap (λ value. value then λ e. or_fault (codec.of e)) (value_read line d utf8 (ap read (sym same) ∙ is)) ∙ ap (λ e. or_fault (codec.of e)) (sym shown)

no_value_by : (line : List ℕ) (b : Bool) → is_utf8 line ≡ b → (IsUtf8 line → read line ≡ None)
    → (if b then or_no_json (read line) else Err (line_words Json)) ≡ Err (line_words Json)
no_value_by line true utf8 none = ap or_no_json (none (IsUtf8-from_is_utf8 line utf8))
no_value_by line false utf8 none = refl

-- the bytes are not UTF-8, or they are not read
pub no_value : (line : List ℕ) → (IsUtf8 line → read line ≡ None) → parsed_value line ≡ Err (line_words Json)
unfolding parsed_value
no_value line none = no_value_by line (is_utf8 line) refl none

-- a line that is not JSON has no record
pub no_record : {X : Type 0} (codec : Codec X) (line : List ℕ) → (IsUtf8 line → read line ≡ None) → parsed_record codec line ≡ Err (line_words Json)
no_record codec line none = ap (λ value. value then λ e. or_fault (codec.of e)) (no_value line none)

-- a call gives what an equal meaning is
pub gives_same : {X Y : Type 0} (view : X → Y) (result : Result X Unwritten) (m n : Result Y (List ℕ)) → Gives view result m → n ≡ m → Gives view result n
gives_same view result m n gives e = subst (Gives view result) (sym e) gives

-- ---- the line of a record

-- a telegram that fits its size has its canonical text
pub telegram_written : (t : Telegram) (text line : List ℕ) → IsCanonicalText t text → line ≡ text ++ codes "\n"
    → telegram_line t ≡ Ok line
unfolding telegram_line
telegram_written t text line x is =
    let fits : nat_lt (user_bits t.size) (used_bits t) ≡ false = le-ltb (user_bits t.size) (used_bits t) x.encoding.fits in
    ap (λ (b : Bool). text_unless b (telegram_text t)) fits
    ∙ ap (λ (s : List ℕ). Ok (s ++ codes "\n")) (sym (canonical_telegram t text x)) ∙ ap Ok (sym is)

-- a result that has no text has the error
only_too_big : (too_big : Bool) (text : List ℕ) → IsErr (text_unless too_big text) → too_big ≡ true
only_too_big true text none = refl
only_too_big false text none = none

pub telegram_without_text : (t : Telegram) → IsErr (telegram_line t) → IsTooBig t
unfolding telegram_line
telegram_without_text t none = ltb-true (user_bits t.size) (used_bits t) (only_too_big (nat_lt (user_bits t.size) (used_bits t)) (telegram_text t) none)

pub telegram_too_big : (t : Telegram) → IsTooBig t → telegram_line t ≡ Err (line_words TooBig)
unfolding telegram_line
telegram_too_big t big = ap (λ (b : Bool). text_unless b (telegram_text t)) (lt-ltb (user_bits t.size) (used_bits t) big)

-- a message that fits in 1,023 bytes has its canonical text
pub message_written : (m : Message) (text line : List ℕ) → IsMessageText m text → line ≡ text ++ codes "\n"
    → message_line m ≡ Ok line
unfolding message_line
message_written m text line x is =
    let fit = never_too_big m x.bytes (encoding_message m x.bytes x.encoding) in
    let few : message_bits m ≤ 8184 = omega (arith, fit) in
    let fits : nat_lt 8184 (message_bits m) ≡ false = le-ltb 8184 (message_bits m) few in
    ap (λ (b : Bool). text_unless b (message_text m)) fits
    ∙ ap (λ (s : List ℕ). Ok (s ++ codes "\n")) (sym (canonical_message m text x)) ∙ ap Ok (sym is)

pub message_without_text : (m : Message) → IsErr (message_line m) → IsMessageTooBig m
unfolding message_line
message_without_text m none = ltb-true 8184 (message_bits m) (only_too_big (nat_lt 8184 (message_bits m)) (message_text m) none)

pub message_too_big : (m : Message) → IsMessageTooBig m → message_line m ≡ Err (line_words TooBig)
unfolding message_line
message_too_big m big = ap (λ (b : Bool). text_unless b (message_text m)) (lt-ltb 8184 (message_bits m) big)
