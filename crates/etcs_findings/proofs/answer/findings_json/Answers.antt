use Rattle.std.proofs.Common.{◌∙◌, ap}
use Rattle.json.specs.Tree.{json_tokens}
use Rattle.etcs_digits.specs.JsonLineWriter.{puts}
use Rattle.etcs_document.specs.Verdict.{summary_of_text}
use Rattle.etcs_findings.specs.Answer.{answer_json, findings_of_text, outcome_of_text}
use Rattle.etcs_findings.proofs.answer.findings_json.Goals as goal

-- the answer, and then the end of the line
pub returns-clause-line : goal.returns-clause-line
unfolding findings_of_text
returns-clause-line c =
    let tokens = json_tokens (answer_json (summary_of_text c.args.bytes.now)) in
    c.in_ok-line.ensures tokens (c.in_ok-outcome.ensures.appended ∙ ap (λ l. puts l tokens) c.new-out.ensures)

pub returns-clause-outcome : goal.returns-clause-outcome
unfolding outcome_of_text
returns-clause-outcome c = c.in_ok-outcome.ensures.outcome
