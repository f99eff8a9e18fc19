-- The answer to bytes that are refused is the refusal of their fault.
use Rattle.std.proofs.Common.{◌≡◌, ◌≢◌, ◌∙◌, [], ◌∷◌, Option, Some, None, Result, refl, sym, ap}
use Rattle.std.specs.Prelude.{IfSome, codes, option_map}
use Rattle.json.specs.Token.{begin_object, end_object}
use Rattle.json.specs.Tree.{json_tokens}
use Rattle.etcs_digits.specs.JsonLineWriter.{Line, puts}
use Rattle.etcs_schema.specs.Fault.{Fault}
use Rattle.etcs_schema.specs.declared.error.FormError.TheVariants as forms
use Rattle.etcs_document.specs.DocumentFault.{DocumentFault, Fails, bad_form}
use Rattle.etcs_document.specs.Verdict.{Summary}
use Rattle.etcs_document.specs.declared.line_error.LineError.{LineError}
use Rattle.etcs_document.specs.declared.line_error.LineError.TheVariants as errors
use Rattle.etcs_radio.specs.declared.error.RadioTextError.TheVariants as radio
use Rattle.etcs_telegram.specs.declared.error.TextError.TheVariants as texts
use Rattle.etcs_findings.specs.Answer.{answer_json, answer_outcome}
use Rattle.etcs_findings.specs.Members.{with_text}
use Rattle.etcs_findings.specs.Refusals.{fault_of, refusal_json, with_fault}
use Rattle.etcs_findings.specs.Writing.{AddsMembers}
use Rattle.etcs_findings.specs.declared.answer.Outcome.TheVariants.{Refused}
use Rattle.etcs_findings.proofs.WritingLemmas.{adds_then, makes_object}

-- the fault of a form is a fault of the document
pub form_added : (o : Option Fault) (a b : Line) → IfSome o (λ f. AddsMembers (with_fault (bad_form f)) a b)
    → IfSome (option_map bad_form o) (λ f. AddsMembers (with_fault f) a b)
form_added None a b added = tt
form_added (Some f) a b added = added

-- the verdict and the fault, between the brackets of an object
pub makes_refusal : (o : Option DocumentFault) (a b c d e : Line) → b ≡ puts a (begin_object ∷ [])
    → AddsMembers (with_text (codes "verdict") (codes "refused")) b c → IfSome o (λ f. AddsMembers (with_fault f) c d) → e ≡ puts d (end_object ∷ [])
    → IfSome o (λ f. e ≡ puts a (json_tokens (refusal_json f)))
makes_refusal None a b c d e begun verdict added ended = tt
makes_refusal (Some f) a b c d e begun verdict added ended = makes_object a begun (adds_then verdict added) ended

-- what is appended for an error is the answer to the bytes that have it
pub refused : (why : LineError) (reading : Result Summary DocumentFault) (old new : Line) → why ≢ errors.Memory → Fails why reading
    → IfSome (fault_of why) (λ f. new ≡ puts old (json_tokens (refusal_json f))) → new ≡ puts old (json_tokens (answer_json reading))
refused errors.Memory reading old new other fails written = absurd (other refl)
refused errors.NotJson reading old new other fails written = written ∙ ap (λ r. puts old (json_tokens (answer_json r))) (sym fails)
refused (errors.Form forms.Memory) reading old new other fails written = absurd fails
refused (errors.Form (forms.Missing path)) reading old new other fails written = written ∙ ap (λ r. puts old (json_tokens (answer_json r))) (sym fails)
refused (errors.Form (forms.Unknown path)) reading old new other fails written = written ∙ ap (λ r. puts old (json_tokens (answer_json r))) (sym fails)
refused (errors.Form (forms.Kind path)) reading old new other fails written = written ∙ ap (λ r. puts old (json_tokens (answer_json r))) (sym fails)
refused (errors.Form (forms.Range path)) reading old new other fails written = written ∙ ap (λ r. puts old (json_tokens (answer_json r))) (sym fails)
refused (errors.Count g) reading old new other fails written = written ∙ ap (λ r. puts old (json_tokens (answer_json r))) (sym fails)
refused (errors.Telegram g b texts.Memory) reading old new other fails written = absurd fails
refused (errors.Telegram g b texts.NotHex) reading old new other fails written = written ∙ ap (λ r. puts old (json_tokens (answer_json r))) (sym fails)
refused (errors.Telegram g b texts.WrongSize) reading old new other fails written = written ∙ ap (λ r. puts old (json_tokens (answer_json r))) (sym fails)
refused (errors.Telegram g b texts.PadBits) reading old new other fails written = written ∙ ap (λ r. puts old (json_tokens (answer_json r))) (sym fails)
refused (errors.Telegram g b (texts.Fault f)) reading old new other fails written = written ∙ ap (λ r. puts old (json_tokens (answer_json r))) (sym fails)
refused (errors.Aspects g) reading old new other fails written = written ∙ ap (λ r. puts old (json_tokens (answer_json r))) (sym fails)
refused (errors.AspectTelegram g a b texts.Memory) reading old new other fails written = absurd fails
refused (errors.AspectTelegram g a b texts.NotHex) reading old new other fails written = written ∙ ap (λ r. puts old (json_tokens (answer_json r))) (sym fails)
refused (errors.AspectTelegram g a b texts.WrongSize) reading old new other fails written = written ∙ ap (λ r. puts old (json_tokens (answer_json r))) (sym fails)
refused (errors.AspectTelegram g a b texts.PadBits) reading old new other fails written = written ∙ ap (λ r. puts old (json_tokens (answer_json r))) (sym fails)
refused (errors.AspectTelegram g a b (texts.Fault f)) reading old new other fails written = written ∙ ap (λ r. puts old (json_tokens (answer_json r))) (sym fails)
refused (errors.Message m radio.Memory) reading old new other fails written = absurd fails
refused (errors.Message m radio.NotHex) reading old new other fails written = written ∙ ap (λ r. puts old (json_tokens (answer_json r))) (sym fails)
refused (errors.Message m (radio.Fault f)) reading old new other fails written = written ∙ ap (λ r. puts old (json_tokens (answer_json r))) (sym fails)

-- and the outcome is that they are refused
pub refused_outcome : (why : LineError) (reading : Result Summary DocumentFault) → why ≢ errors.Memory → Fails why reading → Refused ≡ answer_outcome reading
refused_outcome errors.Memory reading other fails = absurd (other refl)
refused_outcome errors.NotJson reading other fails = ap answer_outcome (sym fails)
refused_outcome (errors.Form forms.Memory) reading other fails = absurd fails
refused_outcome (errors.Form (forms.Missing path)) reading other fails = ap answer_outcome (sym fails)
refused_outcome (errors.Form (forms.Unknown path)) reading other fails = ap answer_outcome (sym fails)
refused_outcome (errors.Form (forms.Kind path)) reading other fails = ap answer_outcome (sym fails)
refused_outcome (errors.Form (forms.Range path)) reading other fails = ap answer_outcome (sym fails)
refused_outcome (errors.Count g) reading other fails = ap answer_outcome (sym fails)
refused_outcome (errors.Telegram g b texts.Memory) reading other fails = absurd fails
refused_outcome (errors.Telegram g b texts.NotHex) reading other fails = ap answer_outcome (sym fails)
refused_outcome (errors.Telegram g b texts.WrongSize) reading other fails = ap answer_outcome (sym fails)
refused_outcome (errors.Telegram g b texts.PadBits) reading other fails = ap answer_outcome (sym fails)
refused_outcome (errors.Telegram g b (texts.Fault f)) reading other fails = ap answer_outcome (sym fails)
refused_outcome (errors.Aspects g) reading other fails = ap answer_outcome (sym fails)
refused_outcome (errors.AspectTelegram g a b texts.Memory) reading other fails = absurd fails
refused_outcome (errors.AspectTelegram g a b texts.NotHex) reading other fails = ap answer_outcome (sym fails)
refused_outcome (errors.AspectTelegram g a b texts.WrongSize) reading other fails = ap answer_outcome (sym fails)
refused_outcome (errors.AspectTelegram g a b texts.PadBits) reading other fails = ap answer_outcome (sym fails)
refused_outcome (errors.AspectTelegram g a b (texts.Fault f)) reading other fails = ap answer_outcome (sym fails)
refused_outcome (errors.Message m radio.Memory) reading other fails = absurd fails
refused_outcome (errors.Message m radio.NotHex) reading other fails = ap answer_outcome (sym fails)
refused_outcome (errors.Message m (radio.Fault f)) reading other fails = ap answer_outcome (sym fails)
