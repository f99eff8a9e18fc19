-- What is written by the edition is what the program writes.
use Rattle.std.proofs.Common.{◌≡◌, ℕ, ◌+◌, List, [], ◌∷◌, Result, Ok, Err, refl, sym, ap, ap₂, ◌∙◌}
use Rattle.hex.specs.Hex.{decode_of}
use Rattle.hex.specs.declared.error.FromHexError.{FromHexError}
use Rattle.etcs_bits.specs.declared.layout.fault.Fault.{Fault}
use Rattle.etcs_bits.specs.layout.FaultWords.{fault_words}
use Rattle.etcs_telegram.proofs.LawLemmas as telegrams
use Rattle.etcs_telegram.specs.Record.{Telegram}
use Rattle.etcs_telegram.specs.TextMeaning.{telegram_of_text}
use Rattle.etcs_telegram.specs.declared.error.TextError.{TextError}
use Rattle.etcs_radio.proofs.MessageLemmas.{message_meant, means_message}
use Rattle.etcs_radio.specs.Cutting.{cut_stream}
use Rattle.etcs_radio.specs.Meaning.{read_message}
use Rattle.etcs_radio.specs.Splitter.{splitter_state}
use Rattle.etcs_radio.specs.declared.message.Message.{Message as RadioMessage}
use Rattle.etcs_radio.specs.declared.splitter.State.{State}
use Rattle.etcs_radio.specs.declared.splitter.State.TheVariants.{Failed, More, Ready}
use Rattle.etcs_document.specs.Refusal.{refusal_words, line_words, stream_words}
use Rattle.etcs_json.specs.AnyMessage.{message}
use Rattle.etcs_json.specs.JsonLine.{json_line_text}
use Rattle.etcs_json.specs.Telegrams.{telegram}
use Rattle.etcs_schema.specs.Codec.{object}
use Rattle.etcs_run.specs.Output.{Output, answered, after_line, answers, each_text_line, line_by_line}
use Rattle.etcs_run.specs.RadioStream.{Continuation, message_json, message_output, messages_output as working_messages, stream_answers, unless_failed as working_unless, after_bytes as working_bytes}
use Rattle.etcs_run.specs.TelegramLines.{telegram_decoded, telegram_json}
use Rattle.etcs_run.specs.TextLineMeaning.{Meaning}
use Rattle.etcs_run.specs.TextLines.{split_lines, trimmed}
use Rattle.etcs_edition.specs.Forms.{telegram_form, message_form}
use Rattle.etcs_edition.specs.Output.{json_line, IsTelegramLine, IsMessageLine, IsEachLine, IsStream, after_message, messages_output, unless_failed, after_bytes, stream_output}
use Rattle.etcs_edition.proofs.FaultLemmas.{message_fault_is_read}
use Rattle.etcs_edition.proofs.FormLemmas.{same_telegram, same_message}
use Rattle.etcs_edition.proofs.ReasonLemmas.{telegram_reason}
use Rattle.etcs_edition.proofs.TextLemmas.{text_read, read_text}
use Rattle.etcs_edition.proofs.MessageLemmas.{read_message as message_is, message_read}

-- ---- decode

telegram_same : (t : Telegram) → json_line_text (object telegram) t ≡ json_line (telegram_form t)
unfolding json_line_text
telegram_same t = ap (λ form. json_line form) (sym (same_telegram t))

decoded_by : (text : List ℕ) (meaning : Result Telegram TextError) → telegram_of_text text ≡ meaning → IsTelegramLine text (telegram_json meaning)
unfolding line_words
decoded_by text (Ok t) is = (t, read_text t text (telegrams.means_text t text is), telegram_same t)
decoded_by text (Err why) is = (why, (telegram_reason text why).1 is, refl)

pub is_decoded : (text : List ℕ) → IsTelegramLine text (telegram_decoded text)
unfolding telegram_decoded
is_decoded text = decoded_by text (telegram_of_text text) refl

pub decoded_is : (text : List ℕ) (r : Result (List ℕ) (List ℕ)) → IsTelegramLine text r → r ≡ telegram_decoded text
unfolding telegram_decoded line_words
decoded_is text (Ok line) x =
    let is = telegrams.text_meaning x.0 text (text_read x.0 text x.1) in
    rw is (ap Ok (x.2 ∙ sym (telegram_same x.0)))
decoded_is text (Err words) x = let is = (telegram_reason text x.0).0 x.1 in rw is (ap Err x.2)

-- ---- line by line

line_same : (m k : Meaning) → ((text : List ℕ) → m text ≡ k text) → (n : ℕ) (line : List ℕ) (rest : Output)
    → after_line m n line rest ≡ after_line k n line rest
line_same m k same n [] rest = refl
line_same m k same n (byte ∷ line) rest = ap (λ r. answered n r rest) (same (byte ∷ line))

answers_same : (m k : Meaning) → ((text : List ℕ) → m text ≡ k text) → (n : ℕ) (lines : List (List ℕ))
    → answers m n lines ≡ answers k n lines
unfolding answers
answers_same m k same n [] = refl
answers_same m k same n (line ∷ lines) =
    line_same m k same n (trimmed line) (answers m (n + 1) lines)
    ∙ ap (λ rest. after_line k n (trimmed line) rest) (answers_same m k same (n + 1) lines)

pub each_line : (Is : List ℕ → Result (List ℕ) (List ℕ) → Type 0) (working : Meaning)
    → ((text : List ℕ) (r : Result (List ℕ) (List ℕ)) → Is text r → r ≡ working text)
    → (input : List ℕ) (output : Output) → IsEachLine Is input output → output ≡ each_text_line working input
each_line Is working one input output x =
    x.2 ∙ answers_same x.0 working (λ text. one text (x.0 text) (x.1 text)) 1 (split_lines input)

-- ---- decode --radio

message_same : (m : RadioMessage) → json_line_text message m ≡ json_line (message_form m)
unfolding json_line_text
message_same m = ap (λ form. json_line form) (sym (same_message m))

abbrev in_words : Result (List ℕ) Fault → Result (List ℕ) (List ℕ)
in_words (Ok line) = Ok line
in_words (Err f) = Err (fault_words f)

abbrev pub decoded_message : Meaning
decoded_message bytes = in_words (message_json (read_message bytes))

message_by : (bytes : List ℕ) (meaning : Result RadioMessage Fault) → read_message bytes ≡ meaning
    → IsMessageLine bytes (in_words (message_json meaning))
message_by bytes (Ok m) is = (m, message_is m bytes (means_message m bytes is), message_same m)
message_by bytes (Err f) is = (f, (message_fault_is_read bytes f).1 is, refl)

pub is_decoded_message : (bytes : List ℕ) → IsMessageLine bytes (decoded_message bytes)
is_decoded_message bytes = message_by bytes (read_message bytes) refl

pub decoded_message_is : (bytes : List ℕ) (r : Result (List ℕ) (List ℕ)) → IsMessageLine bytes r → r ≡ decoded_message bytes
decoded_message_is bytes (Ok line) x =
    let is = message_meant x.0 bytes (message_read x.0 bytes x.1) in
    rw is (ap Ok (x.2 ∙ sym (message_same x.0)))
decoded_message_is bytes (Err words) x =
    let is = (message_fault_is_read bytes x.0).0 x.1 in
    rw is (ap Err x.2)

after_same : (n : ℕ) (r : Result (List ℕ) Fault) (rest : Output) → after_message n (in_words r) rest ≡ message_output n r rest
unfolding refusal_words stream_words
after_same n (Ok line) rest = refl
after_same n (Err f) rest = refl

unless_same : (state : State) (n : ℕ) (held : List ℕ) (rest : Continuation)
    → unless_failed state n (rest n held) ≡ working_unless state n held rest
unfolding refusal_words stream_words
unless_same Failed n held rest = refl
unless_same More n held rest = refl
unless_same Ready n held rest = refl

messages_same : (m : Meaning) → ((bytes : List ℕ) → m bytes ≡ decoded_message bytes) → (n : ℕ) (messages : List (List ℕ))
    → (held : List ℕ) (mine rest : Continuation) → ((k : ℕ) → mine k held ≡ rest k held)
    → messages_output m n messages (λ k. unless_failed (splitter_state held) k (mine k held))
    ≡ working_messages n messages held rest
messages_same m same n [] held mine rest later =
    ap (λ (o : Output). unless_failed (splitter_state held) n o) (later n) ∙ unless_same (splitter_state held) n held rest
messages_same m same n (bytes ∷ messages) held mine rest later =
    ap₂ (λ (r : Result (List ℕ) (List ℕ)) (o : Output). after_message n r o) (same bytes)
    (messages_same m same (n + 1) messages held mine rest later)
    ∙ after_same n (message_json (read_message bytes)) (working_messages (n + 1) messages held rest)

bytes_same : (number : ℕ) (r : Result (List ℕ) FromHexError) (mine rest : List ℕ → Output)
    → ((bytes : List ℕ) → mine bytes ≡ rest bytes) → after_bytes number r mine ≡ working_bytes number r rest
unfolding line_words
bytes_same number (Ok bytes) mine rest same = same bytes
bytes_same number (Err why) mine rest same = refl

stream_same : (m : Meaning) → ((bytes : List ℕ) → m bytes ≡ decoded_message bytes) → (n : ℕ) (held : List ℕ) (number : ℕ)
    → (lines : List (List ℕ)) → stream_output m n held number lines ≡ stream_answers n held number lines
unfolding stream_output stream_answers refusal_words stream_words
stream_same m same n [] number [] = refl
stream_same m same n (byte ∷ held) number [] = refl
stream_same m same n held number (line ∷ lines) =
    bytes_same number (decode_of (trimmed line)) _ _ (λ bytes.
    messages_same m same n (cut_stream held bytes).messages (cut_stream held bytes).held
    (λ k kept. stream_output m k kept (number + 1) lines) (λ k kept. stream_answers k kept (number + 1) lines)
    (λ k. stream_same m same k (cut_stream held bytes).held (number + 1) lines))

pub stream_is : (input : List ℕ) (output : Output) → IsStream IsMessageLine input output
    → output ≡ line_by_line (stream_answers 0 []) input
stream_is input output x =
    x.2 ∙ stream_same x.0 (λ bytes. decoded_message_is bytes (x.0 bytes) (x.1 bytes)) 0 [] 1 (split_lines input)

pub is_stream : (input : List ℕ) (output : Output) → output ≡ line_by_line (stream_answers 0 []) input
    → IsStream IsMessageLine input output
is_stream input output is =
    (decoded_message, is_decoded_message, is ∙ sym (stream_same decoded_message (λ bytes. refl) 0 [] 1 (split_lines input)))
