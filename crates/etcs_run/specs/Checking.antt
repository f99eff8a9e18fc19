-- What `check` writes for the document of a railway line: the report on the line, or why the bytes are
-- not a document.
use Rattle.std.specs.Prelude.{◌++◌, ℕ, List, [], ◌∷◌, codes, Some, None, Result, Ok, Err}
use Rattle.etcs_check.specs.declared.finding.Finding.{Finding}
use Rattle.etcs_document.specs.DocumentFault.{DocumentFault, bad_aspects, bad_count, bad_form, bad_message, bad_telegram, no_json}
use Rattle.etcs_document.specs.Refusal.{form_fault_words, refusal_words}
use Rattle.etcs_document.specs.ReportText.{report_words}
use Rattle.etcs_document.specs.Verdict.{Summary, summary_of_text}
use Rattle.etcs_document.specs.declared.line_error.LineError.TheVariants as errors
use Rattle.etcs_document.specs.declared.refusal.Refusal.TheVariants.{Document}
use Rattle.etcs_run.specs.Output.{Output}
use Rattle.etcs_run.specs.declared.status.Status.{Status}
use Rattle.etcs_run.specs.declared.status.Status.TheVariants.{Done, Findings, Refused}

-- the refusal of a document with this fault
abbrev pub fault_refusal : DocumentFault → List ℕ
fault_refusal no_json = refusal_words (Document errors.NotJson)
fault_refusal (bad_form f) = codes "refused: " ++ (form_fault_words f ++ codes "\n")
fault_refusal (bad_count g) = refusal_words (Document (errors.Count g))
fault_refusal (bad_aspects g) = refusal_words (Document (errors.Aspects g))
fault_refusal (bad_telegram g None b why) = refusal_words (Document (errors.Telegram g b why))
fault_refusal (bad_telegram g (Some a) b why) = refusal_words (Document (errors.AspectTelegram g a b why))
fault_refusal (bad_message m why) = refusal_words (Document (errors.Message m why))

-- the status of a check: Done if there are no findings
abbrev pub check_status : List Finding → Status
check_status [] = Done
check_status (_ ∷ _) = Findings

-- the report on a line with these counts of groups and messages and these findings, and the status
abbrev pub reported : Summary → Output
reported line = (report_words line.0.0 line.0.1 line.1, check_status line.1)

-- the report, or the refusal
abbrev pub checked : Result Summary DocumentFault → Output
checked (Ok line) = reported line
checked (Err fault) = (fault_refusal fault, Refused)

-- what `check` writes for an input
unfoldable pub check_output : List ℕ → Output
check_output document = checked (summary_of_text document)
