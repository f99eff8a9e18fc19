-- The outcome of an answer as JSON is the status of `check`.
use Rattle.std.proofs.Common.{◌≡◌, ℕ, List, [], ◌∷◌, Result, Ok, Err, refl}
use Rattle.etcs_check.specs.declared.finding.Finding.{Finding}
use Rattle.etcs_document.specs.DocumentFault.{DocumentFault}
use Rattle.etcs_document.specs.Verdict.{Summary, summary_of_text}
use Rattle.etcs_findings.specs.Answer.{answer_outcome, outcome_of, outcome_of_text}
use Rattle.etcs_run.specs.Checking.{check_output, check_status, checked}
use Rattle.balisecheck_c.specs.Findings.{outcome_status}

for_findings : (found : List Finding) → outcome_status (outcome_of found) ≡ check_status found
for_findings [] = refl
for_findings (f ∷ found) = refl

for_reading : (reading : Result Summary DocumentFault) → outcome_status (answer_outcome reading) ≡ (checked reading).1
for_reading (Ok line) = for_findings line.1
for_reading (Err fault) = refl

pub status_is : (document : List ℕ) → outcome_status (outcome_of_text document) ≡ (check_output document).1
unfolding outcome_of_text check_output
status_is document = for_reading (summary_of_text document)
