-- The first fault of a document by the edition is the one that is reported.
use Rattle.std.proofs.Common.{◌≡◌, ◌↔◌, ℕ, ◌+◌, Bool, true, false, List, [], ◌∷◌, ◌++◌, codes, length, Option, Some, None, Result, Ok, Err, refl, sym, ap, ap₂, ◌∙◌, if◌then◌else◌}
use Rattle.std.specs.Prelude.{◌&&◌, nat_le, nat_lt, option_map}
use Rattle.std.specs.Option.{is_some}
use Rattle.std.specs.Result.{result_map_both}
use Rattle.serde_json.specs.Data.{Data}
use Rattle.serde_json.specs.Find.{as_str, get}
use Rattle.etcs_document.proofs.ResultLemmas.{then_ok, counted_read}
use Rattle.etcs_document.specs.Document.{◌then◌, aspect_telegrams, balise_telegram, controlled_group, document_group, document_line, document_list, document_message, group_aspect, group_path, has_count, in_form, json_value, line_groups, line_messages, line_of_text, listed_aspects, only_aspect, only_values, other_aspects, read_indexed, text_or, with_first}
use Rattle.etcs_document.specs.DocumentFault.{DocumentFault, bad_aspects, bad_count, bad_message, bad_telegram}
use Rattle.etcs_group.specs.Group.{Telegrams, Aspects}
use Rattle.etcs_radio.specs.TextMeaning.{message_of_text}
use Rattle.etcs_radio.specs.declared.message.Message.{Message}
use Rattle.etcs_radio.specs.declared.error.RadioTextError.{RadioTextError}
use Rattle.etcs_schema.specs.Fault.{Step, key, list_item}
use Rattle.etcs_schema.specs.Reading.{only_keys}
use Rattle.etcs_telegram.specs.TextMeaning.{telegram_of_text}
use Rattle.etcs_telegram.specs.declared.error.TextError.{TextError}
use Rattle.etcs_edition.specs.Refusals.{IsDocumentReason, or_else, fault_in, list_fault, text_fault, aspect_fault, aspects_fault, group_fault, document_fault}
use Rattle.etcs_edition.proofs.DocumentLemmas.{read_count}
use Rattle.etcs_edition.proofs.ReasonLemmas.{telegram_reason, message_reason}

-- ---- faults of results

-- why there is no value
abbrev pub error_of : {A E : Type 0} → Result A E → Option E
error_of (Ok x) = None
error_of (Err e) = Some e

then_fault : {A B : Type 0} (r : Result A DocumentFault) (next : A → Result B DocumentFault)
    → error_of (r then next) ≡ fault_in r (λ x. error_of (next x))
then_fault (Ok x) next = refl
then_fault (Err f) next = refl

in_same : {A : Type 0} (r : Result A DocumentFault) (one other : A → Option DocumentFault)
    → ((x : A) → r ≡ Ok x → one x ≡ other x) → fault_in r one ≡ fault_in r other
in_same (Ok x) one other same = same x refl
in_same (Err f) one other same = refl

-- a first value, and then others
first_fault : {A : Type 0} (r : Result A DocumentFault) (rest : A → Result (List A) DocumentFault) (other : Option DocumentFault)
    → ((x : A) → r ≡ Ok x → error_of (rest x) ≡ other)
    → error_of (r then λ x. with_first x (rest x)) ≡ or_else (error_of r) other
first_fault {A = A} (Ok x) rest other same = then_fault (rest x) (λ xs. Ok (x ∷ xs)) ∙ none (rest x) ∙ same x refl
  where
    none : (r : Result (List A) DocumentFault) → fault_in r (λ xs. error_of (Ok (x ∷ xs))) ≡ error_of r
    none (Ok xs) = refl
    none (Err f) = refl
first_fault (Err f) rest other same = refl

each_fault : {A : Type 0} (read : ℕ → Data → Result A DocumentFault) (find : ℕ → Data → Option DocumentFault)
    → ((i : ℕ) (d : Data) → error_of (read i d) ≡ find i d) → (i : ℕ) (ds : List Data)
    → error_of (read_indexed read i ds) ≡ list_fault find i ds
each_fault read find same i [] = refl
each_fault read find same i (d ∷ ds) =
    first_fault (read i d) (λ x. read_indexed read (i + 1) ds) (list_fault find (i + 1) ds)
    (λ x is. each_fault read find same (i + 1) ds)
    ∙ ap (λ (o : Option DocumentFault). or_else o (list_fault find (i + 1) ds)) (same i d)

-- ---- texts

mapped_fault : {A E : Type 0} (bad : E → DocumentFault) (r : Result A E) (reason : Option E) → error_of r ≡ reason
    → error_of (result_map_both (λ x. x) bad r) ≡ option_map bad reason
mapped_fault bad (Ok x) reason same = ap (option_map bad) same
mapped_fault bad (Err e) reason same = ap (option_map bad) same

text_same : {A E : Type 0} (path : List Step) (read : List ℕ → Result A E) (bad : E → DocumentFault) (reasons : List ℕ → Option E)
    → ((text : List ℕ) → error_of (read text) ≡ reasons text) → (o : Option (List ℕ))
    → error_of (text_or path read bad o) ≡ text_fault reasons bad path o
text_same path read bad reasons same None = refl
text_same path read bad reasons same (Some text) = mapped_fault bad (read text) (reasons text) (same text)

-- ---- the reasons of texts

err_found : {A E : Type 0} (r : Result A E) (e : E) → r ≡ Err e → error_of r ≡ Some e
err_found r e is = ap error_of is

found_err : {A E : Type 0} (r : Result A E) (e : E) → error_of r ≡ Some e → r ≡ Err e
found_err (Ok x) e is = absurd cc
found_err (Err f) e is = cc

found_same : {A E : Type 0} (r : Result A E) (o : Option E) → ((e : E) → (r ≡ Err e) ↔ (o ≡ Some e)) → error_of r ≡ o
found_same (Ok x) None same = refl
found_same (Ok x) (Some e) same = let is = (same e).1 refl in absurd cc
found_same (Err e) o same = sym ((same e).0 refl)

-- ---- an aspect

counted_fault : (few same : Bool) (r : Result Telegrams DocumentFault) (g : ℕ) (o : Option DocumentFault) → error_of r ≡ o
    → error_of (if few then (if same then r else Err (bad_aspects g)) else Err (bad_count g))
    ≡ (if few then (if same then o else Some (bad_aspects g)) else Some (bad_count g))
counted_fault true true r g o is = is
counted_fault true false r g o is = refl
counted_fault false same r g o is = refl

module _ (telegrams : List ℕ → Option TextError) (same : (text : List ℕ) → error_of (telegram_of_text text) ≡ telegrams text) where
  aspect_same : (g : ℕ) (a first : Option ℕ) (d : Data) → error_of (group_aspect g a first d) ≡ aspect_fault telegrams g a first d
  unfolding group_aspect aspect_telegrams balise_telegram
  aspect_same g a first d =
      then_fault (in_form (group_path g a) (only_values (codes "balises") d)) (aspect_telegrams g a first)
      ∙ in_same (in_form (group_path g a) (only_values (codes "balises") d)) _ _ (λ texts is.
      counted_fault (nat_lt 0 (length texts) && nat_le (length texts) 8) (has_count first (length texts))
      (read_indexed (balise_telegram g a) 0 texts) g _ (
      each_fault (balise_telegram g a) _ (λ b v.
      text_same (group_path g a ++ key (codes "balises") ∷ list_item b ∷ []) telegram_of_text (bad_telegram g a b) telegrams same (as_str v)) 0 texts))

  -- ---- the aspects of a group

  others_same : (g n : ℕ) (ds : List Data)
      → error_of (other_aspects g n ds) ≡ list_fault (λ a. aspect_fault telegrams g (Some a) (Some n)) 1 ds
  others_same g n ds = each_fault (λ a. group_aspect g (Some a) (Some n)) _ (λ a d. aspect_same g (Some a) (Some n) d) 1 ds

  later_same : (g : ℕ) (d : Data) (ds : List Data) (first : Telegrams) → group_aspect g (Some 0) None d ≡ Ok first
      → error_of (other_aspects g (length first) ds)
      ≡ fault_in (in_form (group_path g (Some 0)) (only_values (codes "balises") d)) (λ texts.
      list_fault (λ a. aspect_fault telegrams g (Some a) (Some (length texts))) 1 ds)
  unfolding group_aspect
  later_same g d ds first is =
      let form = in_form (group_path g (Some 0)) (only_values (codes "balises") d) in
      let x = then_ok form (aspect_telegrams g (Some 0) None) first is in
      let read = counted_read g (Some 0) None x.0 first x.2 in
      rw (x.1, read_count (balise_telegram g (Some 0)) 0 x.0 first read.2) (others_same g (length first) ds)

  aspects_same : (g : ℕ) (ds : List Data) → error_of (listed_aspects g ds) ≡ aspects_fault telegrams g ds
  unfolding listed_aspects
  aspects_same g [] = refl
  aspects_same g (d ∷ ds) =
      first_fault (group_aspect g (Some 0) None d) (λ first. other_aspects g (length first) ds) _ (later_same g d ds)
      ∙ ap (λ (o : Option DocumentFault). or_else o (fault_in (in_form (group_path g (Some 0)) (only_values (codes "balises") d)) (λ texts.
      list_fault (λ a. aspect_fault telegrams g (Some a) (Some (length texts))) 1 ds))) (aspect_same g (Some 0) None d)

  -- ---- a group

  value_fault : {A B : Type 0} (r : Result A DocumentFault) (make : A → B) → error_of (r then λ x. Ok (make x)) ≡ error_of r
  value_fault (Ok x) make = refl
  value_fault (Err f) make = refl

  by_key : (g : ℕ) (d : Data) (has : Bool) → error_of (if has then controlled_group g d else only_aspect g d)
      ≡ (if has
      then fault_in (in_form (group_path g None) (only_values (codes "aspects") d)) (aspects_fault telegrams g)
      else aspect_fault telegrams g None None d)
  unfolding controlled_group only_aspect
  by_key g d true =
      then_fault (in_form (group_path g None) (only_values (codes "aspects") d)) (listed_aspects g)
      ∙ in_same (in_form (group_path g None) (only_values (codes "aspects") d)) _ _ (λ ds is. aspects_same g ds)
  by_key g d false = value_fault (group_aspect g None None d) (λ only. only ∷ []) ∙ aspect_same g None None d

  pub group_same : (g : ℕ) (d : Data) → error_of (document_group g d) ≡ group_fault telegrams g d
  unfolding document_group
  group_same g d = by_key g d (is_some (get (codes "aspects") d))

-- ---- the document

line_fault : (form : Result (Unit {0}) DocumentFault) (groups : Result (List Aspects) DocumentFault) (messages : Result (List Message) DocumentFault)
    → error_of {A = List Aspects × List Message} ((form then λ _. groups) then λ gs. messages then λ ms. Ok (gs, ms))
    ≡ fault_in form (λ _. or_else (error_of groups) (error_of messages))
line_fault (Err f) groups messages = refl
line_fault (Ok u) (Err f) messages = refl
line_fault (Ok u) (Ok gs) (Err f) = refl
line_fault (Ok u) (Ok gs) (Ok ms) = refl

document_same : (telegrams : List ℕ → Option TextError) (messages : List ℕ → Option RadioTextError)
    → ((text : List ℕ) → error_of (telegram_of_text text) ≡ telegrams text)
    → ((text : List ℕ) → error_of (message_of_text text) ≡ messages text)
    → (bytes : List ℕ) → error_of (line_of_text bytes) ≡ document_fault telegrams messages bytes
unfolding line_of_text document_line line_groups line_messages document_message
document_same telegrams messages same other bytes =
    then_fault (json_value bytes) document_line
    ∙ in_same (json_value bytes) _ _ (λ d is.
    line_fault (in_form [] (only_keys (codes "groups" ∷ codes "messages" ∷ []) d)) (line_groups d) (line_messages d)
    ∙ in_same (in_form [] (only_keys (codes "groups" ∷ codes "messages" ∷ []) d)) _ _ (λ keys known.
    ap₂ or_else
    (then_fault (document_list (codes "groups") d) (read_indexed document_group 0)
    ∙ in_same (document_list (codes "groups") d) _ _ (λ ds has.
    each_fault document_group _ (group_same telegrams same) 0 ds))
    (then_fault (document_list (codes "messages") d) (read_indexed document_message 0)
    ∙ in_same (document_list (codes "messages") d) _ _ (λ ds has.
    each_fault document_message _ (λ m v.
    text_same (key (codes "messages") ∷ list_item m ∷ []) message_of_text (bad_message m) messages other (as_str v)) 0 ds))))

pub reason_is : (bytes : List ℕ) (f : DocumentFault) → IsDocumentReason bytes f → line_of_text bytes ≡ Err f
reason_is bytes f x =
    let telegrams : (text : List ℕ) → error_of (telegram_of_text text) ≡ x.telegrams text = λ text.
    found_same (telegram_of_text text) (x.telegrams text) (λ why. (
      λ is. (x.telegram_reasons text why).0 ((telegram_reason text why).1 is),
      λ is. (telegram_reason text why).0 ((x.telegram_reasons text why).1 is),
    )) in
    let messages : (text : List ℕ) → error_of (message_of_text text) ≡ x.messages text = λ text.
    found_same (message_of_text text) (x.messages text) (λ why. (
      λ is. (x.message_reasons text why).0 ((message_reason text why).1 is),
      λ is. (message_reason text why).0 ((x.message_reasons text why).1 is),
    )) in
    found_err (line_of_text bytes) f (document_same x.telegrams x.messages telegrams messages bytes ∙ x.first)

pub is_reason : (bytes : List ℕ) (f : DocumentFault) → line_of_text bytes ≡ Err f → IsDocumentReason bytes f
is_reason bytes f is = record {
  telegrams = λ text. error_of (telegram_of_text text);
  messages = λ text. error_of (message_of_text text);
  telegram_reasons = λ text why. (
    λ is. err_found (telegram_of_text text) why ((telegram_reason text why).0 is),
    λ is. (telegram_reason text why).1 (found_err (telegram_of_text text) why is),
  );
  message_reasons = λ text why. (
    λ is. err_found (message_of_text text) why ((message_reason text why).0 is),
    λ is. (message_reason text why).1 (found_err (message_of_text text) why is),
  );
  first =
      sym (document_same (λ text. error_of (telegram_of_text text)) (λ text. error_of (message_of_text text)) (λ text. refl) (λ text. refl) bytes)
      ∙ err_found (line_of_text bytes) f is;
}
