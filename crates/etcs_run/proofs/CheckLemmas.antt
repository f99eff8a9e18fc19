-- The refusal of a document is the refusal of its fault.
use Rattle.std.proofs.Common.{◌≡◌, ◌≢◌, ℕ, List, Result, Ok, refl, sym, ap}
use Rattle.etcs_document.specs.DocumentFault.{DocumentFault, Fails}
use Rattle.etcs_document.specs.Refusal.{document_words, refusal_words}
use Rattle.etcs_document.specs.Verdict.{Summary, summary_of_text}
use Rattle.etcs_schema.specs.declared.error.FormError.TheVariants as forms
use Rattle.etcs_document.specs.declared.line_error.LineError.{LineError}
use Rattle.etcs_document.specs.declared.line_error.LineError.TheVariants as errors
use Rattle.etcs_document.specs.declared.refusal.Refusal.TheVariants.{Document}
use Rattle.etcs_radio.specs.declared.error.RadioTextError.TheVariants as radio
use Rattle.etcs_telegram.specs.declared.error.TextError.TheVariants as texts
use Rattle.etcs_run.specs.Checking.{check_output, checked, reported}
use Rattle.etcs_run.specs.Output.{refusal_output}

-- a document that is refused, unless memory ran out, has this fault, in the same words
pub document_refused : (why : LineError) (reading : Result Summary DocumentFault) → why ≢ errors.Memory → Fails why reading
    → checked reading ≡ refusal_output (Document why)
unfolding refusal_words document_words
document_refused errors.Memory reading other fails = absurd (other refl)
document_refused errors.NotJson reading other fails = ap checked fails
document_refused (errors.Form forms.Memory) reading other fails = absurd fails
document_refused (errors.Form (forms.Missing path)) reading other fails = ap checked fails
document_refused (errors.Form (forms.Unknown path)) reading other fails = ap checked fails
document_refused (errors.Form (forms.Kind path)) reading other fails = ap checked fails
document_refused (errors.Form (forms.Range path)) reading other fails = ap checked fails
document_refused (errors.Count g) reading other fails = ap checked fails
document_refused (errors.Telegram g b texts.Memory) reading other fails = absurd fails
document_refused (errors.Telegram g b texts.NotHex) reading other fails = ap checked fails
document_refused (errors.Telegram g b texts.WrongSize) reading other fails = ap checked fails
document_refused (errors.Telegram g b texts.PadBits) reading other fails = ap checked fails
document_refused (errors.Telegram g b (texts.Fault f)) reading other fails = ap checked fails
document_refused (errors.Aspects g) reading other fails = ap checked fails
document_refused (errors.AspectTelegram g a b texts.Memory) reading other fails = absurd fails
document_refused (errors.AspectTelegram g a b texts.NotHex) reading other fails = ap checked fails
document_refused (errors.AspectTelegram g a b texts.WrongSize) reading other fails = ap checked fails
document_refused (errors.AspectTelegram g a b texts.PadBits) reading other fails = ap checked fails
document_refused (errors.AspectTelegram g a b (texts.Fault f)) reading other fails = ap checked fails
document_refused (errors.Message m radio.Memory) reading other fails = absurd fails
document_refused (errors.Message m radio.NotHex) reading other fails = ap checked fails
document_refused (errors.Message m (radio.Fault f)) reading other fails = ap checked fails

-- a line that was read is reported on
pub is_reported : (document : List ℕ) {line : Summary} → summary_of_text document ≡ Ok line
    → reported line ≡ check_output document
unfolding check_output
is_reported document is = sym (ap checked is)

-- a document that is refused is answered by its refusal
pub is_refused : (why : LineError) (document : List ℕ) → why ≢ errors.Memory
    → Fails why (summary_of_text document) → refusal_output (Document why) ≡ check_output document
unfolding check_output
is_refused why document other fails = sym (document_refused why (summary_of_text document) other fails)
