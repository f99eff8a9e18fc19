use Rattle.std.proofs.Common.{◌∙◌, ℕ, List, ap, ap₂, subst}
use Rattle.etcs_run.specs.declared.status.Status.{Status}
use Rattle.etcs_run.specs.declared.status.Status.TheVariants.{Refused}
use Rattle.etcs_table_check.specs.Refusals.{FailsAs}
use Rattle.etcs_table_check.specs.Verdict.{verdict_of_table}
use Rattle.etcs_table_check.specs.declared.error.CheckTableError.{CheckTableError}
use Rattle.etcs_table_run.specs.TableOutput.{table_status}
use Rattle.etcs_table_run.proofs.TableLemmas.{is_answered}
use Rattle.etcs_table_run.proofs.checking.answer_table.Goals as goal

-- the table was judged
pub returns-in_ok-text-in-Ok : goal.returns-in_ok-text-in-Ok
returns-in_ok-text-in-Ok c =
    let status = c.status_of.ensures ∙ ap table_status c.findings.ensures in
    ap₂ (λ (t : List ℕ) (s : Status). (t, s)) c.in_ok-text-in-Ok.ensures status ∙ is_answered c.args.headings.now c.args.table.now c.in-Ok.ensures.exact

-- it is refused
pub returns-in_ok-text-in-Err-Refused : goal.returns-in_ok-text-in-Err-Refused
returns-in_ok-text-in-Err-Refused c =
    let refused = c.in-Err-Refused in
    let meaning = verdict_of_table c.args.headings.now c.args.table.now in
    let fails = subst (λ (e : CheckTableError). FailsAs e meaning) refused.field-0-is refused.ensures.exact in
    ap (λ (t : List ℕ). (t, Refused)) c.in_ok-text-in-Err-Refused.ensures ∙ is_answered c.args.headings.now c.args.table.now fails
