-- Reading a document's values, and when bytes are JSON.
use Rattle.std.proofs.Common.{◌≡◌, ◌+◌, ◌<◌, ℕ, suc, Bool, true, false, List, [], ◌∷◌, ◌++◌, codes, length, Option, Some, None, Result, Ok, Err, inl, inr, refl, ap, sym, subst, arith, ◌∙◌}
use Rattle.std.specs.Prelude.{◌⊎◌, IsTrue, if◌then◌else◌}
use Rattle.std.specs.Option.{ok_or}
use Rattle.std.specs.Str.{IsUtf8, is_utf8}
use Rattle.std.proofs.lemmas.Str.{IsUtf8-from_is_utf8, is_utf8-from_IsUtf8}
use Rattle.json.specs.Json.{value}
use Rattle.json.specs.Lex.{lex, punctuate, tokens}
use Rattle.json.specs.Reads.{opens}
use Rattle.serde_json.specs.Data.{Data}
use Rattle.serde_json.specs.Read.{read as read_text}
use Rattle.etcs_document.proofs.ResultLemmas.{same_ok}
use Rattle.etcs_document.specs.Document.{◌then◌, document_group, document_line, document_list, document_message, json_value, line_groups, line_messages, line_of_text, read_indexed, with_first}
use Rattle.etcs_document.specs.DocumentFault.{DocumentFault, no_json}
use Rattle.etcs_document.specs.Verdict.{Summary, summary_of_text}
use Rattle.etcs_radio.specs.declared.message.Message.{Message}
use Rattle.etcs_schema.specs.Reading.{only_keys}
use Rattle.etcs_telegram.specs.Record.{Telegram}

-- ---- bytes that are JSON

pub is_json : (bytes : List ℕ) (d : Data) → IsUtf8 bytes → read_text bytes ≡ Some d → json_value bytes ≡ Ok d
unfolding json_value
is_json bytes d utf8 is = rw (is_utf8-from_IsUtf8 bytes utf8, is) refl

no_value : (utf8 : Bool) (value : Option Data) → (utf8 ≡ true → value ≡ None) → (if utf8 then ok_or value no_json else Err no_json) ≡ Err no_json
no_value false value none = refl
no_value true value none = rw (none refl) refl

pub is_no_json : (bytes : List ℕ) → (IsUtf8 bytes → read_text bytes ≡ None) → json_value bytes ≡ Err no_json
unfolding json_value
is_no_json bytes none = no_value (is_utf8 bytes) (read_text bytes) (λ utf8. none (IsUtf8-from_is_utf8 bytes utf8))

pub not_readable : (bytes : List ℕ) → is_utf8 bytes ≡ false → IsUtf8 bytes → ⊥
not_readable bytes unreadable utf8 = cc (is_utf8-from_IsUtf8 bytes utf8)

-- ---- an empty input, and bytes that are not JSON

pub nothing_read : (bytes : List ℕ) → bytes ≡ [] → read_text bytes ≡ None
unfolding lex punctuate value
nothing_read bytes none = ap read_text none

pub nothing_opens : (text : List ℕ) (room : ℕ) → text ≡ [] → IsTrue (opens (tokens text)) ⊎ (room < length text) → ⊥
unfolding lex punctuate
nothing_opens text room none (inl opened) = let no : false ≡ true = ap (λ t. opens (tokens t)) (sym none) ∙ opened in absurd (cc)
nothing_opens text room none (inr short) = let no : room < 0 = subst (λ t. room < length t) none short in absurd (omega arith)

pub no_value_read : (bytes : List ℕ) (d : Data) → bytes ≡ [] → read_text bytes ≡ Some d → ⊥
no_value_read bytes d none is = cc (nothing_read bytes none)

pub not_counted : (bytes : List ℕ) (c : Summary) → json_value bytes ≡ Err no_json → summary_of_text bytes ≡ Ok c → ⊥
unfolding line_of_text
not_counted bytes c bad is = let no : summary_of_text bytes ≡ Err no_json = rw bad refl in cc

-- ---- values that are read one after the other

-- what was found, and then what is read
abbrev pub with_front : {A : Type 0} → List A → Result (List A) DocumentFault → Result (List A) DocumentFault
with_front front (Ok xs) = Ok (front ++ xs)
with_front front (Err f) = Err f

as_many : {A : Type 0} (r : Result A DocumentFault) (rest : Result (List A) DocumentFault) (n : ℕ) → ((ys : List A) → rest ≡ Ok ys → length ys ≡ n)
    → (xs : List A) → (r then λ x. with_first x rest) ≡ Ok xs → length xs ≡ suc n
as_many (Err f) rest n h xs is = cc
as_many (Ok x) (Err f) n h xs is = cc
as_many (Ok x) (Ok ys) n h xs is = ap length (same_ok xs (x ∷ ys) (Ok (x ∷ ys)) is refl) ∙ ap suc (h ys refl)

-- as many are read as there are values
pub read_count : {A : Type 0} (read : ℕ → Data → Result A DocumentFault) (i : ℕ) (ds : List Data) (xs : List A) → read_indexed read i ds ≡ Ok xs → length xs ≡ length ds
read_count read i [] xs is = ap length (same_ok xs [] (Ok []) is refl)
read_count read i (d ∷ ds) xs is = as_many (read i d) (read_indexed read (i + 1) ds) (length ds) (read_count read (i + 1) ds) xs is

-- the groups, and then the messages
pub line_read : (d : Data) (gs : List (List (List Telegram))) (ms : List Message) → only_keys (codes "groups" ∷ codes "messages" ∷ []) d ≡ Ok tt
    → (document_list (codes "groups") d then read_indexed document_group 0) ≡ Ok gs → (document_list (codes "messages") d then read_indexed document_message 0) ≡ Ok ms → document_line d ≡ Ok (gs, ms)
unfolding document_line line_groups line_messages
line_read d gs ms keys groups messages = rw (keys, groups, messages) refl
