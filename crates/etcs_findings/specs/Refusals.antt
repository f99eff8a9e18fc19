-- Why bytes are not the document of a railway line, as JSON: the reason, in the words of the refusal's text, and
-- each part of the place as a member. The form is this project's.
use Rattle.std.specs.Prelude.{ℕ, List, [], codes, Option, Some, None, option_map}
use Rattle.json.specs.Json.{Json, Members, array, member, no_members, object, string}
use Rattle.etcs_bits.specs.declared.layout.fault.Fault.{Fault as BitFault}
use Rattle.etcs_bits.specs.layout.FaultWords.{kind_words}
use Rattle.etcs_schema.specs.Fault.{Step, error_fault, key, list_item}
use Rattle.etcs_telegram.specs.declared.error.TextError.{TextError}
use Rattle.etcs_telegram.specs.declared.error.TextError.TheVariants as texts
use Rattle.etcs_radio.specs.declared.error.RadioTextError.{RadioTextError}
use Rattle.etcs_radio.specs.declared.error.RadioTextError.TheVariants as radio
use Rattle.etcs_document.specs.DocumentFault.{DocumentFault, bad_aspects, bad_count, bad_form, bad_message, bad_telegram, no_json}
use Rattle.etcs_document.specs.Refusal.{reason_words}
use Rattle.etcs_document.specs.declared.line_error.LineError.{LineError}
use Rattle.etcs_document.specs.declared.line_error.LineError.TheVariants as errors
use Rattle.etcs_findings.specs.Members.{json_items, whole, with_number, with_option, with_text}

abbrev pub with_reason : List ℕ → Members → Members
with_reason words rest = with_text (codes "reason") words rest

-- ---- why a text is not a telegram or a message

-- where the field with the fault begins, and how many bits decide the fault
abbrev pub with_bits : BitFault → Members → Members
with_bits fault rest = with_number (codes "at") fault.at (with_number (codes "end") fault.end rest)

-- the reason why a text is not a telegram
abbrev pub telegram_reason : TextError → List ℕ
telegram_reason texts.Memory = []
telegram_reason texts.NotHex = codes "not hexadecimal"
telegram_reason texts.WrongSize = codes "wrong size"
telegram_reason texts.PadBits = codes "pad bits set"
telegram_reason (texts.Fault fault) = kind_words fault.why

-- the bits of the fault, if the text has the bits of a telegram
abbrev pub with_telegram_bits : TextError → Members → Members
with_telegram_bits texts.Memory rest = rest
with_telegram_bits texts.NotHex rest = rest
with_telegram_bits texts.WrongSize rest = rest
with_telegram_bits texts.PadBits rest = rest
with_telegram_bits (texts.Fault fault) rest = with_bits fault rest

-- the reason why a text is not a message
abbrev pub message_reason : RadioTextError → List ℕ
message_reason radio.Memory = []
message_reason radio.NotHex = codes "not hexadecimal"
message_reason (radio.Fault fault) = kind_words fault.why

-- the bits of the fault, if the text has whole bytes
abbrev pub with_message_bits : RadioTextError → Members → Members
with_message_bits radio.Memory rest = rest
with_message_bits radio.NotHex rest = rest
with_message_bits (radio.Fault fault) rest = with_bits fault rest

-- ---- why a value is not a line

-- a step of a path: a key as a text, an index as a number
abbrev pub step_json : Step → Json
step_json (key name) = string name
step_json (list_item i) = whole i

-- the path to a value, from the document inwards
abbrev pub with_path : List Step → Members → Members
with_path steps rest = member (codes "path") (array (json_items step_json steps)) rest

-- what is wrong with the value at this path
abbrev pub with_form : List ℕ → List Step → Members → Members
with_form words steps rest = with_reason words (with_path steps rest)

-- what is wrong with this group: the number of its balises or aspects
abbrev pub with_group : List ℕ → ℕ → Members → Members
with_group words g rest = with_reason words (with_number (codes "group") g rest)

-- ---- the refusal

-- the reason and the place of a fault
unfoldable pub with_fault : DocumentFault → Members → Members
with_fault no_json rest = with_reason (codes "not JSON") rest
with_fault (bad_form f) rest = with_form (reason_words f.reason) f.path rest
with_fault (bad_count g) rest = with_group (codes "count") g rest
with_fault (bad_aspects g) rest = with_group (codes "aspects") g rest
with_fault (bad_telegram g a b why) rest =
    with_reason (telegram_reason why) (with_number (codes "group") g (with_option (codes "aspect") a
    (with_number (codes "balise") b (with_telegram_bits why rest))))
with_fault (bad_message m why) rest =
    with_reason (message_reason why) (with_number (codes "message") m (with_message_bits why rest))

abbrev pub refusal_json : DocumentFault → Json
refusal_json fault = object (with_text (codes "verdict") (codes "refused") (with_fault fault no_members))

-- the fault that an error names; lack of memory names none
abbrev pub fault_of : LineError → Option DocumentFault
fault_of errors.Memory = None
fault_of errors.NotJson = Some no_json
fault_of (errors.Form e) = option_map bad_form (error_fault e)
fault_of (errors.Count g) = Some (bad_count g)
fault_of (errors.Aspects g) = Some (bad_aspects g)
fault_of (errors.Telegram g b why) = Some (bad_telegram g None b why)
fault_of (errors.AspectTelegram g a b why) = Some (bad_telegram g (Some a) b why)
fault_of (errors.Message m why) = Some (bad_message m why)
