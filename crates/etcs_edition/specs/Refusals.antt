-- Why an input is refused: the first fault of a text or of a document, in the order in which it is read. Groups,
-- aspects, balises and messages count from 0. The words are this project's.
use Rattle.std.specs.Prelude.{◌≡◌, ◌≢◌, ◌↔◌, ℕ, ◌+◌, ◌<◌, ◌&&◌, nat_le, nat_lt, Bool, false, if◌then◌else◌, codes, decimal, List, [], ◌∷◌, ◌++◌, length, replicate, Option, Some, None, option_map, Result, Ok, Err}
use Rattle.std.specs.Option.{is_some}
use Rattle.serde_json.specs.Data.{Data}
use Rattle.serde_json.specs.Find.{as_str, get}
use Rattle.hex.specs.Hex.{decode_of}
use Rattle.etcs_telegram.specs.declared.error.TextError.{TextError}
use Rattle.etcs_telegram.specs.declared.error.TextError.TheVariants as errors
use Rattle.etcs_telegram.specs.declared.size.Size.{Size}
use Rattle.etcs_radio.specs.declared.error.RadioTextError.{RadioTextError}
use Rattle.etcs_radio.specs.declared.error.RadioTextError.TheVariants as radio
use Rattle.etcs_document.specs.Document.{document_list, group_path, has_count, in_form, json_value, only_values}
use Rattle.etcs_document.specs.DocumentFault.{DocumentFault, bad_aspects, bad_count, bad_form, bad_message, bad_telegram, no_json}
use Rattle.etcs_document.specs.Refusal.{form_fault_words, radio_words, text_words}
use Rattle.etcs_schema.specs.Fault.{Kind, Step, fault, key, list_item}
use Rattle.etcs_schema.specs.Reading.{only_keys}
use Rattle.etcs_edition.specs.Wire.{bits_of_bytes}
use Rattle.etcs_edition.specs.Telegram.{user_bits}
use Rattle.etcs_edition.specs.Faults.{IsTelegramFault, IsMessageFault}

-- ---- texts

-- The text is the digits of bytes, which have the bits of a short or a long telegram and fewer than eight pad bits.
pub record IsSized (text : List ℕ) : Type 0 where
  pub bytes : List ℕ
  pub size : Size
  pub bits : List Bool
  pub pads : List Bool
  pub decoded : decode_of text ≡ Ok bytes
  pub are : bits_of_bytes bytes ≡ bits ++ pads
  pub count : length bits ≡ user_bits size
  pub few : length pads < 8

-- why a text is refused as a telegram: the first of these reasons
abbrev pub IsTelegramReason : List ℕ → TextError → Type 0
IsTelegramReason text errors.Memory = ⊥
IsTelegramReason text errors.NotHex = (bytes : List ℕ) → decode_of text ≡ Ok bytes → ⊥
IsTelegramReason text errors.WrongSize =
    (bytes : List ℕ) × (decode_of text ≡ Ok bytes) × (IsSized text → ⊥)
IsTelegramReason text errors.PadBits = (x : IsSized text) × (x.pads ≢ replicate (length x.pads) false)
IsTelegramReason text (errors.Fault f) =
    (x : IsSized text) × (x.pads ≡ replicate (length x.pads) false) × IsTelegramFault x.bits f

-- why a text is refused as a radio message
abbrev pub IsMessageReason : List ℕ → RadioTextError → Type 0
IsMessageReason text radio.Memory = ⊥
IsMessageReason text radio.NotHex = (bytes : List ℕ) → decode_of text ≡ Ok bytes → ⊥
IsMessageReason text (radio.Fault f) = (bytes : List ℕ) × (decode_of text ≡ Ok bytes) × IsMessageFault bytes f

-- ---- the first fault of the document of a line
-- `telegrams` and `messages` give the reason why a text is refused.

-- this fault, or else the other one
abbrev pub or_else : Option DocumentFault → Option DocumentFault → Option DocumentFault
or_else None other = other
or_else (Some f) other = Some f

-- the fault of what was read, or else of its content
abbrev pub fault_in : {X : Type 0} → Result X DocumentFault → (X → Option DocumentFault) → Option DocumentFault
fault_in (Ok x) more = more x
fault_in (Err f) more = Some f

-- the values of a list, one after the other; the first one has index i
abbrev pub list_fault : (ℕ → Data → Option DocumentFault) → ℕ → List Data → Option DocumentFault
list_fault find i [] = None
list_fault find i (d ∷ ds) = or_else (find i d) (list_fault find (i + 1) ds)

-- a text at this path
abbrev pub text_fault : {E : Type 0} → (List ℕ → Option E) → (E → DocumentFault) → List Step → Option (List ℕ)
    → Option DocumentFault
text_fault reasons bad path None = Some (bad_form (fault Kind path))
text_fault reasons bad path (Some text) = option_map bad (reasons text)

-- Group g, or aspect a of it: the form, the number of balises, which is that of the first aspect, and the balises
abbrev pub aspect_fault : (List ℕ → Option TextError) → ℕ → Option ℕ → Option ℕ → Data → Option DocumentFault
aspect_fault telegrams g a first d =
    fault_in (in_form (group_path g a) (only_values (codes "balises") d)) (λ texts.
    if nat_lt 0 (length texts) && nat_le (length texts) 8
    then (if has_count first (length texts)
    then list_fault (λ b v. text_fault telegrams (bad_telegram g a b)
    (group_path g a ++ key (codes "balises") ∷ list_item b ∷ []) (as_str v)) 0 texts
    else Some (bad_aspects g)) else Some (bad_count g))

-- the aspects of group g
abbrev pub aspects_fault : (List ℕ → Option TextError) → ℕ → List Data → Option DocumentFault
aspects_fault telegrams g [] = Some (bad_aspects g)
aspects_fault telegrams g (d ∷ ds) =
    or_else (aspect_fault telegrams g (Some 0) None d)
    (fault_in (in_form (group_path g (Some 0)) (only_values (codes "balises") d)) (λ texts.
    list_fault (λ a. aspect_fault telegrams g (Some a) (Some (length texts))) 1 ds))

-- group g, which has a list of aspects if it has the key `aspects`
abbrev pub group_fault : (List ℕ → Option TextError) → ℕ → Data → Option DocumentFault
group_fault telegrams g d =
    if is_some (get (codes "aspects") d)
    then fault_in (in_form (group_path g None) (only_values (codes "aspects") d)) (aspects_fault telegrams g)
    else aspect_fault telegrams g None None d

-- the bytes: JSON, its two keys, the groups, and then the messages
abbrev pub document_fault : (List ℕ → Option TextError) → (List ℕ → Option RadioTextError) → List ℕ
    → Option DocumentFault
document_fault telegrams messages bytes =
    fault_in (json_value bytes) (λ d.
    fault_in (in_form [] (only_keys (codes "groups" ∷ codes "messages" ∷ []) d)) (λ keys.
    or_else (fault_in (document_list (codes "groups") d) (list_fault (group_fault telegrams) 0))
    (fault_in (document_list (codes "messages") d) (list_fault (λ m v.
    text_fault messages (bad_message m) (key (codes "messages") ∷ list_item m ∷ []) (as_str v)) 0))))

-- the function gives each text its reason, and none to a text without one
abbrev pub Finds : {E : Type 0} → (List ℕ → E → Type 0) → (List ℕ → Option E) → Type 0
Finds {E} IsReason find = (text : List ℕ) (why : E) → IsReason text why ↔ (find text ≡ Some why)

-- the first fault of bytes that are not the document of a line
pub record IsDocumentReason (bytes : List ℕ) (f : DocumentFault) : Type 0 where
  pub telegrams : List ℕ → Option TextError
  pub messages : List ℕ → Option RadioTextError
  pub telegram_reasons : Finds IsTelegramReason telegrams
  pub message_reasons : Finds IsMessageReason messages
  pub first : document_fault telegrams messages bytes ≡ Some f

-- ---- the words

abbrev pub document_words : DocumentFault → List ℕ
document_words no_json = codes "not JSON"
document_words (bad_form f) = form_fault_words f
document_words (bad_count g) = codes "group " ++ (decimal g ++ codes ": count")
document_words (bad_aspects g) = codes "group " ++ (decimal g ++ codes ": aspects")
document_words (bad_telegram g None b why) =
    codes "group " ++ (decimal g ++ (codes " balise " ++ (decimal b ++ (codes ": " ++ text_words why))))
document_words (bad_telegram g (Some a) b why) =
    codes "group " ++ (decimal g ++ (codes " aspect " ++ (decimal a ++ (codes " balise " ++ (decimal b
    ++ (codes ": " ++ text_words why))))))
document_words (bad_message m why) = codes "message " ++ (decimal m ++ (codes ": " ++ radio_words why))
