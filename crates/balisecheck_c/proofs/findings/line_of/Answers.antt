use Rattle.std.proofs.Common.{◌∙◌, ℕ, List, ap, ap₂, sym}
use Rattle.etcs_run.specs.declared.status.Status.{Status}
use Rattle.balisecheck_c.specs.Findings.{outcome_status}
use Rattle.balisecheck_c.proofs.FindingsLemmas.{status_is}
use Rattle.balisecheck_c.proofs.findings.line_of.Goals as goal

-- the line, and the status of its outcome
pub returns-in-Ok : goal.returns-in-Ok
returns-in-Ok c =
    let status = c.status_of.ensures ∙ ap outcome_status c.in-Ok.ensures.outcome ∙ status_is c.args.input.now in
    ap₂ (λ (t : List ℕ) (s : Status). (t, s)) (sym c.in-Ok.ensures.line) (sym status)
