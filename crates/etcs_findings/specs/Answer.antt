-- What `check` answers, as one line of JSON: the verdict on a railway line with its findings, or why the bytes are
-- not the document of a line.
use Rattle.std.specs.Prelude.{◌++◌, ℕ, List, [], ◌∷◌, codes, Result, Ok, Err}
use Rattle.json.specs.Json.{Json}
use Rattle.json.specs.Print.{print}
use Rattle.json.specs.Tree.{json_tokens}
use Rattle.etcs_check.specs.declared.finding.Finding.{Finding}
use Rattle.etcs_document.specs.DocumentFault.{DocumentFault}
use Rattle.etcs_document.specs.Verdict.{Summary, summary_of_text}
use Rattle.etcs_findings.specs.Findings.{summary_json}
use Rattle.etcs_findings.specs.Refusals.{refusal_json}
use Rattle.etcs_findings.specs.declared.answer.Outcome.{Outcome}
use Rattle.etcs_findings.specs.declared.answer.Outcome.TheVariants.{Yes, No, Refused}

-- the verdict, or the refusal
abbrev pub answer_json : Result Summary DocumentFault → Json
answer_json (Ok line) = summary_json line
answer_json (Err fault) = refusal_json fault

-- the text of a value: no blanks, the shortest escapes, and members in their order
abbrev pub json_text : Json → List ℕ
json_text value = print (json_tokens value)

-- The line for these bytes: the counts and findings of `summary_of_text`, from which the report of `check` is made, or
-- their first fault.
unfoldable pub findings_of_text : List ℕ → List ℕ
findings_of_text bytes = json_text (answer_json (summary_of_text bytes)) ++ codes "\n"

-- ---- the outcome

-- yes if there are no findings
abbrev pub outcome_of : List Finding → Outcome
outcome_of [] = Yes
outcome_of (_ ∷ _) = No

-- the outcome for the line of a document, or for its fault
abbrev pub answer_outcome : Result Summary DocumentFault → Outcome
answer_outcome (Ok line) = outcome_of line.1
answer_outcome (Err fault) = Refused

-- the outcome of checking these bytes
unfoldable pub outcome_of_text : List ℕ → Outcome
outcome_of_text bytes = answer_outcome (summary_of_text bytes)
