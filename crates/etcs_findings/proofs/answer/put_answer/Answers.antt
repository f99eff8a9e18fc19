use Rattle.std.proofs.Common.{◌∙◌, ap, sym}
use Rattle.json.specs.Tree.{json_tokens}
use Rattle.etcs_digits.specs.JsonLineWriter.{puts}
use Rattle.etcs_document.specs.Verdict.{summary_of_text}
use Rattle.etcs_findings.specs.Answer.{answer_json, answer_outcome, outcome_of}
use Rattle.etcs_findings.specs.Findings.{summary_json}
use Rattle.etcs_findings.proofs.RefusalLemmas.{refused, refused_outcome}
use Rattle.etcs_findings.proofs.answer.put_answer.Goals as goal

-- the line was read
pub returns-in-Ok-clause-appended : goal.returns-in-Ok-clause-appended
returns-in-Ok-clause-appended c =
    let it = c.in-Ok.checked in
    c.in_ok-put_summary-in-Ok.ensures
    ∙ ap (λ found. puts c.args.out.now (json_tokens (summary_json ((it.groups, it.messages), found)))) c.as_slice-findings.ensures.value
    ∙ ap (λ r. puts c.args.out.now (json_tokens (answer_json r))) (sym c.in-Ok.ensures.exact)

pub returns-in-Ok-clause-outcome : goal.returns-in-Ok-clause-outcome
returns-in-Ok-clause-outcome c =
    c.outcome_of.ensures ∙ ap outcome_of c.as_slice-findings.ensures.value ∙ ap answer_outcome (sym c.in-Ok.ensures.exact)

-- the bytes are refused, and not for lack of memory
pub returns-clause-appended : goal.returns-clause-appended
returns-clause-appended c =
    refused c.in-Err.why (summary_of_text c.args.bytes.now) c.args.out.now c.put_refusal.new.out c.in_default.not-Memory c.in-Err.ensures.exact
    c.in_ok-put_refusal-in_default.ensures

pub returns-clause-outcome : goal.returns-clause-outcome
returns-clause-outcome c =
    refused_outcome c.in-Err.why (summary_of_text c.args.bytes.now) c.in_default.not-Memory c.in-Err.ensures.exact
