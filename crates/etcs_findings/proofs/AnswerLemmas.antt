-- The fault of a refusal is read from its members.
use Rattle.std.proofs.Common.{◌≡◌, ◌≤◌, ℕ, cond, List, [], ◌∷◌, Option, Some, None, Result, Ok, Err, arith, refl, ap, ap₂}
use Rattle.std.specs.Prelude.{IfSome, bytes_eq, codes, option_map}
use Rattle.std.specs.List.{AllByRecursion}
use Rattle.std.specs.Str.Parse.{digits_value}
use Rattle.json.specs.Find.{get_member}
use Rattle.json.specs.Json.{Json, Items, Members, item, member, no_items, no_members, number, string, null, boolean, array, object}
use Rattle.json.specs.Tree.{HasNumbers, ItemsHaveNumbers, MembersHaveNumbers, depth, items_depth, members_depth}
use Rattle.json.proofs.Printed.Decimals.{IsNumber-decimal}
use Rattle.etcs_bits.specs.declared.layout.fault.Fault.{Fault as BitFault}
use Rattle.etcs_bits.specs.declared.layout.fault.FaultKind.{FaultKind}
use Rattle.etcs_bits.specs.declared.layout.fault.FaultKind.TheVariants as kinds
use Rattle.etcs_bits.specs.layout.FaultWords.{kind_words}
use Rattle.etcs_schema.specs.Fault.{Reason, Missing, Unknown, Kind, Range, Step, fault, key, list_item}
use Rattle.etcs_telegram.specs.declared.error.TextError.{TextError}
use Rattle.etcs_telegram.specs.declared.error.TextError.TheVariants as texts
use Rattle.etcs_radio.specs.declared.error.RadioTextError.{RadioTextError}
use Rattle.etcs_radio.specs.declared.error.RadioTextError.TheVariants as radio
use Rattle.etcs_check.specs.declared.finding.Finding.{Finding}
use Rattle.etcs_document.specs.DocumentFault.{DocumentFault, bad_aspects, bad_count, bad_form, bad_message, bad_telegram, no_json}
use Rattle.etcs_document.specs.Refusal.{reason_words}
use Rattle.etcs_document.specs.Verdict.{Summary}
use Rattle.etcs_findings.specs.Answer.{answer_json}
use Rattle.etcs_findings.specs.Findings.{summary_json}
use Rattle.etcs_findings.specs.Laws.{AreBitsInRange, IsFaultInRange, IsInRange, IsRadioErrorInRange, IsStepInRange, IsSummaryInRange, IsTextErrorInRange, IsWord}
use Rattle.etcs_findings.specs.Members.{json_items, whole}
use Rattle.etcs_findings.specs.Refusals.{refusal_json, step_json, with_fault, with_message_bits, with_telegram_bits}
use Rattle.etcs_findings.proofs.MemberLemmas.{number_back, number_from, option_depth, option_numbers, text_from}
use Rattle.etcs_findings.proofs.FindingLemmas.{findings_back, findings_depth, findings_from, findings_numbers}

abbrev text_of : Option Json → List ℕ
text_of None = []
text_of (Some j) = text_from j

abbrev number_of : Option Json → ℕ
number_of None = 0
number_of (Some j) = number_from j

abbrev items_of : Option Json → Items
items_of None = no_items
items_of (Some null) = no_items
items_of (Some (boolean b)) = no_items
items_of (Some (number s)) = no_items
items_of (Some (string s)) = no_items
items_of (Some (array js)) = js
items_of (Some (object ms)) = no_items

-- ---- reasons

kind_from : List ℕ → FaultKind
kind_from w =
    cond (bytes_eq w (codes "short")) kinds.Short (cond (bytes_eq w (codes "spare")) kinds.Spare
    (cond (bytes_eq w (codes "length")) kinds.Length (cond (bytes_eq w (codes "no end")) kinds.NoEnd
    (cond (bytes_eq w (codes "version")) kinds.Version (cond (bytes_eq w (codes "loop")) kinds.Loop
    (cond (bytes_eq w (codes "down-link")) kinds.Downlink (cond (bytes_eq w (codes "message kind")) kinds.MessageKind
    (cond (bytes_eq w (codes "no authority")) kinds.NoAuthority kinds.NoReport))))))))

kind_back : (k : FaultKind) → kind_from (kind_words k) ≡ k
unfolding kind_from
kind_back kinds.Short = refl
kind_back kinds.Spare = refl
kind_back kinds.Length = refl
kind_back kinds.NoEnd = refl
kind_back kinds.Version = refl
kind_back kinds.Loop = refl
kind_back kinds.Downlink = refl
kind_back kinds.MessageKind = refl
kind_back kinds.NoAuthority = refl
kind_back kinds.NoReport = refl

reason_from : List ℕ → Reason
reason_from w =
    cond (bytes_eq w (codes "missing key")) Missing (cond (bytes_eq w (codes "unknown key")) Unknown
    (cond (bytes_eq w (codes "kind")) Kind Range))

reason_back : (r : Reason) → reason_from (reason_words r) ≡ r
unfolding reason_from
reason_back Missing = refl
reason_back Unknown = refl
reason_back Kind = refl
reason_back Range = refl

-- ---- places

bits_of : ℕ → ℕ → FaultKind → BitFault
bits_of at end why = record { at = at; end = end; why = why }

same_bits : (a b c d : ℕ) (k l : FaultKind) → a ≡ b → c ≡ d → k ≡ l → bits_of a c k ≡ bits_of b d l
same_bits a b c d k l p q r = cc

bits_back : (f : BitFault) → AreBitsInRange f → bits_of (number_from (whole f.at)) (number_from (whole f.end)) (kind_from (kind_words f.why)) ≡ f
unfolding bits_of
bits_back f small = same_bits _ f.at _ f.end _ f.why (number_back f.at small.0) (number_back f.end small.1) (kind_back f.why)

abbrev step_from : Json → Step
step_from null = list_item 0
step_from (boolean b) = list_item 0
step_from (number s) = list_item (digits_value 10 s)
step_from (string s) = key s
step_from (array js) = list_item 0
step_from (object ms) = list_item 0

steps_from : Items → List Step
steps_from no_items = []
steps_from (item j js) = step_from j ∷ steps_from js

step_back : (s : Step) → IsStepInRange s → step_from (step_json s) ≡ s
step_back (key name) small = refl
step_back (list_item i) small = ap list_item (number_back i small)

steps_back : (steps : List Step) → AllByRecursion IsStepInRange steps → steps_from (json_items step_json steps) ≡ steps
unfolding steps_from
steps_back [] small = refl
steps_back (s ∷ steps) small = ap₂ (λ (x : Step) (xs : List Step). x ∷ xs) (step_back s small.0) (steps_back steps small.1)

-- ---- the answer

abbrev telegram_error_from : List ℕ → Option Json → Option Json → TextError
telegram_error_from w (Some at) end = texts.Fault (bits_of (number_from at) (number_of end) (kind_from w))
telegram_error_from w None end =
    cond (bytes_eq w []) texts.Memory (cond (bytes_eq w (codes "not hexadecimal")) texts.NotHex
    (cond (bytes_eq w (codes "wrong size")) texts.WrongSize texts.PadBits))

abbrev message_error_from : List ℕ → Option Json → Option Json → RadioTextError
message_error_from w (Some at) end = radio.Fault (bits_of (number_from at) (number_of end) (kind_from w))
message_error_from w None end = cond (bytes_eq w []) radio.Memory radio.NotHex

abbrev fault_parts : List ℕ → Option Json → Option Json → Option Json → Option Json → Option Json → Option Json → Option Json → DocumentFault
fault_parts w (Some path) message group aspect balise at end = bad_form (fault (reason_from w) (steps_from (items_of (Some path))))
fault_parts w None (Some message) group aspect balise at end = bad_message (number_from message) (message_error_from w at end)
fault_parts w None None (Some group) aspect (Some balise) at end =
    bad_telegram (number_from group) (option_map number_from aspect) (number_from balise) (telegram_error_from w at end)
fault_parts w None None (Some group) aspect None at end =
    cond (bytes_eq w (codes "count")) (bad_count (number_from group)) (bad_aspects (number_from group))
fault_parts w None None None aspect balise at end = no_json

abbrev fault_from : Members → DocumentFault
fault_from ms =
    fault_parts (text_of (get_member (codes "reason") ms)) (get_member (codes "path") ms) (get_member (codes "message") ms)
    (get_member (codes "group") ms) (get_member (codes "aspect") ms) (get_member (codes "balise") ms) (get_member (codes "at") ms)
    (get_member (codes "end") ms)

abbrev answer_in : Members → Result Summary DocumentFault
answer_in ms =
    cond (bytes_eq (text_of (get_member (codes "verdict") ms)) (codes "refused")) (Err (fault_from ms))
    (Ok (
      (number_of (get_member (codes "groups") ms), number_of (get_member (codes "messages") ms)),
      findings_from (items_of (get_member (codes "findings") ms)),
    ))

pub answer_from : Json → Result Summary DocumentFault
answer_from null = Err no_json
answer_from (boolean b) = Err no_json
answer_from (number s) = Err no_json
answer_from (string s) = Err no_json
answer_from (array js) = Err no_json
answer_from (object ms) = answer_in ms

abbrev refused_with : DocumentFault → Result Summary DocumentFault
refused_with f = Err f

telegram_back : (g : ℕ) (a : Option ℕ) (b : ℕ) (why : TextError) → IsWord g → IfSome a IsWord → IsWord b → IsTextErrorInRange why
    → answer_from (refusal_json (bad_telegram g a b why)) ≡ Err (bad_telegram g a b why)
unfolding with_fault answer_from
telegram_back g None b texts.Memory sg sa sb small =
    ap₂ (λ (x y : ℕ). refused_with (bad_telegram x None y texts.Memory)) (number_back g sg) (number_back b sb)
telegram_back g None b texts.NotHex sg sa sb small =
    ap₂ (λ (x y : ℕ). refused_with (bad_telegram x None y texts.NotHex)) (number_back g sg) (number_back b sb)
telegram_back g None b texts.WrongSize sg sa sb small =
    ap₂ (λ (x y : ℕ). refused_with (bad_telegram x None y texts.WrongSize)) (number_back g sg) (number_back b sb)
telegram_back g None b texts.PadBits sg sa sb small =
    ap₂ (λ (x y : ℕ). refused_with (bad_telegram x None y texts.PadBits)) (number_back g sg) (number_back b sb)
telegram_back g None b (texts.Fault fault) sg sa sb small =
    ap₂ (λ (x : ℕ × ℕ) (e : BitFault). refused_with (bad_telegram x.0 None x.1 (texts.Fault e)))
    (ap₂ (λ (x y : ℕ). (x, y)) (number_back g sg) (number_back b sb)) (bits_back fault small)
telegram_back g (Some a) b texts.Memory sg sa sb small =
    ap₂ (λ (x : ℕ) (y : ℕ × ℕ). refused_with (bad_telegram x (Some y.0) y.1 texts.Memory)) (number_back g sg)
    (ap₂ (λ (x y : ℕ). (x, y)) (number_back a sa) (number_back b sb))
telegram_back g (Some a) b texts.NotHex sg sa sb small =
    ap₂ (λ (x : ℕ) (y : ℕ × ℕ). refused_with (bad_telegram x (Some y.0) y.1 texts.NotHex)) (number_back g sg)
    (ap₂ (λ (x y : ℕ). (x, y)) (number_back a sa) (number_back b sb))
telegram_back g (Some a) b texts.WrongSize sg sa sb small =
    ap₂ (λ (x : ℕ) (y : ℕ × ℕ). refused_with (bad_telegram x (Some y.0) y.1 texts.WrongSize)) (number_back g sg)
    (ap₂ (λ (x y : ℕ). (x, y)) (number_back a sa) (number_back b sb))
telegram_back g (Some a) b texts.PadBits sg sa sb small =
    ap₂ (λ (x : ℕ) (y : ℕ × ℕ). refused_with (bad_telegram x (Some y.0) y.1 texts.PadBits)) (number_back g sg)
    (ap₂ (λ (x y : ℕ). (x, y)) (number_back a sa) (number_back b sb))
telegram_back g (Some a) b (texts.Fault fault) sg sa sb small =
    ap₂ (λ (x : ℕ × ℕ × ℕ) (e : BitFault). refused_with (bad_telegram x.0 (Some x.1) x.2 (texts.Fault e)))
    (ap₂ (λ (x : ℕ) (y : ℕ × ℕ). (x, y.0, y.1)) (number_back g sg) (ap₂ (λ (x y : ℕ). (x, y)) (number_back a sa) (number_back b sb))) (bits_back fault small)

message_back : (m : ℕ) (why : RadioTextError) → IsWord m → IsRadioErrorInRange why
    → answer_from (refusal_json (bad_message m why)) ≡ Err (bad_message m why)
unfolding with_fault answer_from
message_back m radio.Memory sm small = ap (λ x. refused_with (bad_message x radio.Memory)) (number_back m sm)
message_back m radio.NotHex sm small = ap (λ x. refused_with (bad_message x radio.NotHex)) (number_back m sm)
message_back m (radio.Fault fault) sm small =
    ap₂ (λ (x : ℕ) (e : BitFault). refused_with (bad_message x (radio.Fault e))) (number_back m sm) (bits_back fault small)

fault_back : (f : DocumentFault) → IsFaultInRange f → answer_from (refusal_json f) ≡ Err f
unfolding with_fault answer_from
fault_back no_json small = refl
fault_back (bad_form f) small =
    ap₂ (λ (r : Reason) (path : List Step). refused_with (bad_form (fault r path))) (reason_back f.reason) (steps_back f.path small)
fault_back (bad_count g) small = ap (λ x. refused_with (bad_count x)) (number_back g small)
fault_back (bad_aspects g) small = ap (λ x. refused_with (bad_aspects x)) (number_back g small)
fault_back (bad_telegram g a b why) small = telegram_back g a b why small.0 small.1 small.2 small.3
fault_back (bad_message m why) small = message_back m why small.0 small.1

abbrev summary_of : ℕ → ℕ → List Finding → Result Summary DocumentFault
summary_of groups messages found = Ok ((groups, messages), found)

same_summary : (g h m n : ℕ) (fs gs : List Finding) → g ≡ h → m ≡ n → fs ≡ gs → summary_of g m fs ≡ summary_of h n gs
same_summary g h m n fs gs p q r = cc

summary_back : (g m : ℕ) (fs : List Finding) → IsSummaryInRange ((g, m), fs) → answer_from (summary_json ((g, m), fs)) ≡ summary_of g m fs
unfolding answer_from
summary_back g m [] small = same_summary _ g _ m _ [] (number_back g small.groups) (number_back m small.messages) (findings_back [] small.findings)
summary_back g m (f ∷ fs) small =
    same_summary _ g _ m _ (f ∷ fs) (number_back g small.groups) (number_back m small.messages) (findings_back (f ∷ fs) small.findings)

-- each answer is read from its value
pub answer_back : (a : Result Summary DocumentFault) → IsInRange a → answer_from (answer_json a) ≡ a
answer_back (Ok line) small = summary_back line.0.0 line.0.1 line.1 small
answer_back (Err f) small = fault_back f small

-- ---- what is read from its text

telegram_bits_numbers : (why : TextError) → IsTextErrorInRange why → MembersHaveNumbers (with_telegram_bits why no_members)
telegram_bits_numbers texts.Memory small = tt
telegram_bits_numbers texts.NotHex small = tt
telegram_bits_numbers texts.WrongSize small = tt
telegram_bits_numbers texts.PadBits small = tt
telegram_bits_numbers (texts.Fault f) small = (IsNumber-decimal f.at small.0, (IsNumber-decimal f.end small.1, tt))

message_bits_numbers : (why : RadioTextError) → IsRadioErrorInRange why → MembersHaveNumbers (with_message_bits why no_members)
message_bits_numbers radio.Memory small = tt
message_bits_numbers radio.NotHex small = tt
message_bits_numbers (radio.Fault f) small = (IsNumber-decimal f.at small.0, (IsNumber-decimal f.end small.1, tt))

step_numbers : (s : Step) → IsStepInRange s → HasNumbers (step_json s)
step_numbers (key name) small = tt
step_numbers (list_item i) small = IsNumber-decimal i small

steps_numbers : (steps : List Step) → AllByRecursion IsStepInRange steps → ItemsHaveNumbers (json_items step_json steps)
steps_numbers [] small = tt
steps_numbers (s ∷ steps) small = (step_numbers s small.0, steps_numbers steps small.1)

fault_numbers : (f : DocumentFault) → IsFaultInRange f → HasNumbers (refusal_json f)
unfolding with_fault
fault_numbers no_json small = (tt, (tt, tt))
fault_numbers (bad_form f) small = (tt, (tt, (steps_numbers f.path small, tt)))
fault_numbers (bad_count g) small = (tt, (tt, (IsNumber-decimal g small, tt)))
fault_numbers (bad_aspects g) small = (tt, (tt, (IsNumber-decimal g small, tt)))
fault_numbers (bad_telegram g a b why) small = (
  tt,
  (
    tt,
    (
      IsNumber-decimal g small.0,
      option_numbers (codes "aspect") a (member (codes "balise") (whole b) (with_telegram_bits why no_members)) small.1
          (IsNumber-decimal b small.2, telegram_bits_numbers why small.3),
    ),
  ),
)
fault_numbers (bad_message m why) small = (tt, (tt, (IsNumber-decimal m small.0, message_bits_numbers why small.1)))

step_depth : (s : Step) → depth (step_json s) ≤ 0
step_depth (key name) = omega arith
step_depth (list_item i) = omega arith

steps_depth : (steps : List Step) → items_depth (json_items step_json steps) ≤ 0
steps_depth [] = omega arith
steps_depth (s ∷ steps) = let one = step_depth s in let more = steps_depth steps in omega (arith, one, more)

telegram_bits_depth : (why : TextError) → members_depth (with_telegram_bits why no_members) ≤ 0
telegram_bits_depth texts.Memory = omega arith
telegram_bits_depth texts.NotHex = omega arith
telegram_bits_depth texts.WrongSize = omega arith
telegram_bits_depth texts.PadBits = omega arith
telegram_bits_depth (texts.Fault f) = omega arith

message_bits_depth : (why : RadioTextError) → members_depth (with_message_bits why no_members) ≤ 0
message_bits_depth radio.Memory = omega arith
message_bits_depth radio.NotHex = omega arith
message_bits_depth (radio.Fault f) = omega arith

fault_depth : (f : DocumentFault) → depth (refusal_json f) ≤ 2
unfolding with_fault
fault_depth no_json = omega arith
fault_depth (bad_form f) = let steps = steps_depth f.path in omega (arith, steps)
fault_depth (bad_count g) = omega arith
fault_depth (bad_aspects g) = omega arith
fault_depth (bad_telegram g a b why) =
    let bits = telegram_bits_depth why in
    let balise : members_depth (member (codes "balise") (whole b) (with_telegram_bits why no_members)) ≤ 0 = omega (arith, bits) in
    let aspect = option_depth (codes "aspect") a (member (codes "balise") (whole b) (with_telegram_bits why no_members)) 0 balise in
    omega (arith, aspect)
fault_depth (bad_message m why) = let bits = message_bits_depth why in omega (arith, bits)

pub answer_numbers : (a : Result Summary DocumentFault) → IsInRange a → HasNumbers (answer_json a)
answer_numbers (Ok line) small =
    (tt, (IsNumber-decimal line.0.0 small.groups, (IsNumber-decimal line.0.1 small.messages, (findings_numbers line.1 small.findings, tt))))
answer_numbers (Err f) small = fault_numbers f small

pub answer_depth : (a : Result Summary DocumentFault) → depth (answer_json a) ≤ 128
answer_depth (Ok line) = let found = findings_depth line.1 in omega (arith, found)
answer_depth (Err f) = let few = fault_depth f in omega (arith, few)
