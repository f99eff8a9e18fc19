-- What `check` answers as JSON, and its status.
use Rattle.std.specs.Prelude.{ℕ, List}
use Rattle.etcs_findings.specs.Answer.{findings_of_text}
use Rattle.etcs_findings.specs.declared.answer.Outcome.{Outcome}
use Rattle.etcs_findings.specs.declared.answer.Outcome.TheVariants as outcomes
use Rattle.etcs_run.specs.Checking.{check_output}
use Rattle.etcs_run.specs.Output.{Output}
use Rattle.etcs_run.specs.declared.status.Status.{Status}
use Rattle.etcs_run.specs.declared.status.Status.TheVariants as statuses

-- the status of `check` for an outcome
abbrev pub outcome_status : Outcome → Status
outcome_status outcomes.Yes = statuses.Done
outcome_status outcomes.No = statuses.Findings
outcome_status outcomes.Refused = statuses.Refused

-- the line for the bytes, and the status of `check` for them
abbrev pub findings_output : List ℕ → Output
findings_output bytes = (findings_of_text bytes, (check_output bytes).1)
