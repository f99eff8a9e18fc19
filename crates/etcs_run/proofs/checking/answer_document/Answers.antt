use Rattle.std.proofs.Common.{◌∙◌, ℕ, List, ap, ap₂}
use Rattle.etcs_document.specs.ReportText.{report_words}
use Rattle.etcs_run.specs.Checking.{check_status}
use Rattle.etcs_run.specs.declared.status.Status.{Status}
use Rattle.etcs_run.specs.declared.status.Status.TheVariants.{Refused}
use Rattle.etcs_run.proofs.CheckLemmas.{is_refused, is_reported}
use Rattle.etcs_run.proofs.checking.answer_document.Goals as goal

-- the line was read
pub returns-in_ok-text-in-Ok : goal.returns-in_ok-text-in-Ok
returns-in_ok-text-in-Ok c =
    let findings = c.as_slice-findings.ensures.value in
    let text = c.in_ok-text-in-Ok.ensures ∙ ap (report_words c.in-Ok.checked.groups c.in-Ok.checked.messages) findings in
    let status = c.status_of.ensures ∙ ap check_status findings in
    ap₂ (λ (t : List ℕ) (s : Status). (t, s)) text status ∙ is_reported _ c.in-Ok.ensures.exact

-- the document is refused, and not for lack of memory
pub returns-in_ok-text-in_default : goal.returns-in_ok-text-in_default
returns-in_ok-text-in_default c =
    ap (λ (t : List ℕ). (t, Refused)) c.in_ok-text-in_default.ensures ∙ is_refused _ _ c.in_default.not-Memory c.in-Err.ensures.exact
