-- The document of a railway line: a JSON object with its groups and its messages. A group is an object with
-- its balises, or an object with its aspects, each of which is an object with its balises. Each balise and
-- each message is the text of its hexadecimal digits. The form is this project's. The result is the line or
-- the first fault: groups and aspects are read one after the other, and all groups before the messages.
use Rattle.std.specs.Prelude.{ℕ, ◌+◌, ◌++◌, ◌==◌, ◌&&◌, Bool, true, if◌then◌else◌, nat_le, nat_lt, codes, List, [], ◌∷◌, length, Option, Some, None, option_map, Result, Ok, Err}
use Rattle.std.specs.Option.{is_some, ok_or}
use Rattle.std.specs.Result.{result_map_both}
use Rattle.std.specs.Str.{is_utf8}
use Rattle.serde_json.specs.Data.{Data}
use Rattle.serde_json.specs.Find.{as_array, as_str, get}
use Rattle.serde_json.specs.Read.{read}
use Rattle.etcs_document.specs.DocumentFault.{DocumentFault, bad_aspects, bad_count, bad_form, bad_message, bad_telegram, no_json}
use Rattle.etcs_schema.specs.Fault.{Fault, Kind, Step, fault, here, key, list_item}
use Rattle.etcs_schema.specs.Reading.{◌>>=◌, required_member, data_list, only_keys}
use Rattle.etcs_radio.specs.TextMeaning.{message_of_text}
use Rattle.etcs_radio.specs.declared.message.Message.{Message}
use Rattle.etcs_telegram.specs.Record.{Telegram}
use Rattle.etcs_telegram.specs.TextMeaning.{telegram_of_text}
use Rattle.etcs_group.specs.Group.{Telegrams, Aspects}

-- ---- one part after the other

infixl 10 ◌then◌
-- the result of the next step, unless there was a fault
abbrev pub ◌then◌ : {A B : Type 0} → Result A DocumentFault → (A → Result B DocumentFault)
    → Result B DocumentFault
(Ok x) then next = next x
(Err f) then next = Err f

-- a fault in the form of the value at this path of the document
abbrev pub in_form : {A : Type 0} → List Step → Result A Fault → Result A DocumentFault
in_form path r = result_map_both (λ x. x) (λ f. bad_form (fault f.reason (path ++ f.path))) r

abbrev pub with_first : {A : Type 0} → A → Result (List A) DocumentFault → Result (List A) DocumentFault
with_first x r = r then λ xs. Ok (x ∷ xs)

-- the result of reading each value with its index; the first value has index i
abbrev pub read_indexed : {A : Type 0} → (ℕ → Data → Result A DocumentFault) → ℕ → List Data
    → Result (List A) DocumentFault
read_indexed read i [] = Ok []
read_indexed read i (d ∷ ds) = read i d then λ x. with_first x (read_indexed read (i + 1) ds)

-- the values of a list
unfoldable pub as_values : Data → Result (List Data) Fault
as_values d = ok_or (option_map data_list (as_array d)) (here Kind)

-- the result of reading the text at this path; `bad` makes the fault of its error
abbrev pub text_or : {A E : Type 0} → List Step → (List ℕ → Result A E) → (E → DocumentFault)
    → Option (List ℕ) → Result A DocumentFault
text_or path read bad o =
    ok_or o (bad_form (fault Kind path)) then λ text. result_map_both (λ x. x) bad (read text)

-- the list at this key of an object without other keys
unfoldable pub only_values : List ℕ → Data → Result (List Data) Fault
only_values name d = only_keys (name ∷ []) d >>= λ _. required_member as_values name d

-- ---- balises

-- the path of group g, or of aspect a of that group
abbrev pub group_path : ℕ → Option ℕ → List Step
group_path g None = key (codes "groups") ∷ list_item g ∷ []
group_path g (Some a) = key (codes "groups") ∷ list_item g ∷ key (codes "aspects") ∷ list_item a ∷ []

-- balise b of that group or aspect: the text of a telegram
unfoldable pub balise_telegram : ℕ → Option ℕ → ℕ → Data → Result Telegram DocumentFault
balise_telegram g a b d =
    text_or (group_path g a ++ key (codes "balises") ∷ list_item b ∷ []) telegram_of_text (bad_telegram g a b)
    (as_str d)

-- ---- aspects

-- whether the aspect has as many balises as the first one; the first aspect itself, and a group without a
-- list of aspects, may have any number
abbrev pub has_count : Option ℕ → ℕ → Bool
has_count None count = true
has_count (Some first) count = count == first

-- The balises of group g, or of aspect a of that group: one to eight of them, and in a later aspect as many as
-- the first one has. Their number is checked before the balises.
unfoldable pub aspect_telegrams : ℕ → Option ℕ → Option ℕ → List Data → Result Telegrams DocumentFault
aspect_telegrams g a first ds =
    if nat_lt 0 (length ds) && nat_le (length ds) 8
    then (if has_count first (length ds)
    then read_indexed (balise_telegram g a) 0 ds else Err (bad_aspects g))
    else Err (bad_count g)

-- group g, or aspect a of that group: first its form, then the number of its balises, and then each balise
unfoldable pub group_aspect : ℕ → Option ℕ → Option ℕ → Data → Result Telegrams DocumentFault
group_aspect g a first d =
    in_form (group_path g a) (only_values (codes "balises") d) then aspect_telegrams g a first

-- the aspects after the first, which has `count` balises
abbrev pub other_aspects : ℕ → ℕ → List Data → Result Aspects DocumentFault
other_aspects g count ds = read_indexed (λ a. group_aspect g (Some a) (Some count)) 1 ds

-- the aspects of group g, one or more
unfoldable pub listed_aspects : ℕ → List Data → Result Aspects DocumentFault
listed_aspects g [] = Err (bad_aspects g)
listed_aspects g (d ∷ ds) =
    group_aspect g (Some 0) None d then λ first. with_first first (other_aspects g (length first) ds)

-- ---- groups

-- the one aspect of a group without a list of aspects
unfoldable pub only_aspect : ℕ → Data → Result Aspects DocumentFault
only_aspect g d = group_aspect g None None d then λ only. Ok (only ∷ [])

-- a group with a list of aspects
unfoldable pub controlled_group : ℕ → Data → Result Aspects DocumentFault
controlled_group g d = in_form (group_path g None) (only_values (codes "aspects") d) then listed_aspects g

-- the aspects of group g, which has a list of them if it has the key `aspects`
unfoldable pub document_group : ℕ → Data → Result Aspects DocumentFault
document_group g d = if is_some (get (codes "aspects") d) then controlled_group g d else only_aspect g d

-- ---- messages

-- message m: the text of a radio message
unfoldable pub document_message : ℕ → Data → Result Message DocumentFault
document_message m d =
    text_or (key (codes "messages") ∷ list_item m ∷ []) message_of_text (bad_message m) (as_str d)

-- ---- the document

-- the JSON value of the bytes: UTF-8, one value, numbers in range, and at most 127 levels
unfoldable pub json_value : List ℕ → Result Data DocumentFault
json_value bytes = if is_utf8 bytes then ok_or (read bytes) no_json else Err no_json

-- the values in the list at a key of the document
abbrev pub document_list : List ℕ → Data → Result (List Data) DocumentFault
document_list name d = in_form [] (required_member as_values name d)

-- the groups of a document, and the messages
unfoldable pub line_groups : Data → Result (List Aspects) DocumentFault
line_groups d = document_list (codes "groups") d then read_indexed document_group 0

unfoldable pub line_messages : Data → Result (List Message) DocumentFault
line_messages d = document_list (codes "messages") d then read_indexed document_message 0

-- the line of a document: an object with the two keys; the groups, and then the messages
unfoldable pub document_line : Data → Result (List Aspects × List Message) DocumentFault
document_line d =
    in_form [] (only_keys (codes "groups" ∷ codes "messages" ∷ []) d)
    then (λ _. line_groups d)
    then (λ groups. line_messages d then λ messages. Ok (groups, messages))

-- the line of the bytes, or their first fault
unfoldable pub line_of_text : List ℕ → Result (List Aspects × List Message) DocumentFault
line_of_text bytes = json_value bytes then document_line
