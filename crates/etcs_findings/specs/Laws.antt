-- The laws of answers. Each text is JSON, and no two answers have the same text.
use Rattle.std.specs.Prelude.{◌≡◌, ◌<◌, ◌^◌, ◌↔◌, ℕ, List, codes, IfSome, Result, Ok, Err, Some}
use Rattle.std.specs.List.{AllByRecursion}
use Rattle.json.specs.Find.{get}
use Rattle.json.specs.Json.{document, string}
use Rattle.etcs_bits.specs.declared.layout.fault.Fault.{Fault as BitFault}
use Rattle.etcs_check.specs.declared.finding.Finding.{Finding}
use Rattle.etcs_check.specs.declared.finding.Site.{Site}
use Rattle.etcs_check.specs.declared.finding.Site.TheVariants as sites
use Rattle.etcs_document.specs.DocumentFault.{DocumentFault, bad_aspects, bad_count, bad_form, bad_message, bad_telegram, no_json}
use Rattle.etcs_document.specs.Verdict.{IsSoundText, Summary, summary_of_text}
use Rattle.etcs_radio.specs.declared.error.RadioTextError.{RadioTextError}
use Rattle.etcs_radio.specs.declared.error.RadioTextError.TheVariants as radio
use Rattle.etcs_schema.specs.Fault.{Step, key, list_item}
use Rattle.etcs_telegram.specs.declared.error.TextError.{TextError}
use Rattle.etcs_telegram.specs.declared.error.TextError.TheVariants as texts
use Rattle.etcs_findings.specs.Answer.{answer_json, json_text}

-- ---- answers in range: each number has at most 64 bits, as all numbers of the program have

abbrev pub IsWord : ℕ → Type 0
IsWord n = n < 2 ^ 64

abbrev pub IsSiteInRange : Site → Type 0
IsSiteInRange (sites.Group g) = IsWord g
IsSiteInRange (sites.Message m) = IsWord m

pub record IsFindingInRange (f : Finding) : Type 0 where
  pub site : IsSiteInRange f.site
  pub aspect : IfSome f.aspect IsWord
  pub balise : IfSome f.balise IsWord
  pub packet : IfSome f.packet IsWord

pub record IsSummaryInRange (line : Summary) : Type 0 where
  pub groups : IsWord line.0.0
  pub messages : IsWord line.0.1
  pub findings : AllByRecursion IsFindingInRange line.1

abbrev pub AreBitsInRange : BitFault → Type 0
AreBitsInRange fault = IsWord fault.at × IsWord fault.end

abbrev pub IsTextErrorInRange : TextError → Type 0
IsTextErrorInRange texts.Memory = Unit {0}
IsTextErrorInRange texts.NotHex = Unit {0}
IsTextErrorInRange texts.WrongSize = Unit {0}
IsTextErrorInRange texts.PadBits = Unit {0}
IsTextErrorInRange (texts.Fault fault) = AreBitsInRange fault

abbrev pub IsRadioErrorInRange : RadioTextError → Type 0
IsRadioErrorInRange radio.Memory = Unit {0}
IsRadioErrorInRange radio.NotHex = Unit {0}
IsRadioErrorInRange (radio.Fault fault) = AreBitsInRange fault

abbrev pub IsStepInRange : Step → Type 0
IsStepInRange (key name) = Unit {0}
IsStepInRange (list_item i) = IsWord i

abbrev pub IsFaultInRange : DocumentFault → Type 0
IsFaultInRange no_json = Unit {0}
IsFaultInRange (bad_form f) = AllByRecursion IsStepInRange f.path
IsFaultInRange (bad_count g) = IsWord g
IsFaultInRange (bad_aspects g) = IsWord g
IsFaultInRange (bad_telegram g a b why) = IsWord g × IfSome a IsWord × IsWord b × IsTextErrorInRange why
IsFaultInRange (bad_message m why) = IsWord m × IsRadioErrorInRange why

abbrev pub IsInRange : Result Summary DocumentFault → Type 0
IsInRange (Ok line) = IsSummaryInRange line
IsInRange (Err fault) = IsFaultInRange fault

-- ---- the laws

-- The text of an answer is JSON, and is read as the value of the answer.
abbrev pub AnswersAreJson : Type 0
AnswersAreJson = (answer : Result Summary DocumentFault) → IsInRange answer
    → document (json_text (answer_json answer)) ≡ Some (answer_json answer)

-- Two answers with the same text are equal: the verdicts, the counts, and each part of each finding, or of the refusal.
abbrev pub AnswersHaveTextsOfTheirOwn : Type 0
AnswersHaveTextsOfTheirOwn = (a b : Result Summary DocumentFault) → IsInRange a → IsInRange b
    → json_text (answer_json a) ≡ json_text (answer_json b) → a ≡ b

-- The verdict of this answer is yes.
abbrev pub IsYesAnswer : Result Summary DocumentFault → Type 0
IsYesAnswer answer = get (codes "verdict") (answer_json answer) ≡ Some (string (codes "yes"))

-- The verdict is yes if and only if the bytes are the document of a sound line.
abbrev pub YesMeansSoundText : Type 0
YesMeansSoundText = (bytes : List ℕ) → IsYesAnswer (summary_of_text bytes) ↔ IsSoundText bytes
