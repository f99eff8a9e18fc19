use Rattle.std.proofs.Common.{◌∙◌, ap, map}
use Rattle.std.specs.Prelude.{codes}
use Rattle.std.proofs.lemmas.Result.{on_ok_weaker}
use Rattle.json.specs.Json.{array}
use Rattle.json.specs.Tree.{json_tokens}
use Rattle.etcs_digits.specs.JsonLineWriter.{puts}
use Rattle.etcs_schema.specs.Fault.{step_view}
use Rattle.etcs_findings.specs.Members.{json_items}
use Rattle.etcs_findings.specs.Refusals.{step_json}
use Rattle.etcs_findings.proofs.WritingLemmas.{adds_member, items_of_view, makes_list, next_added}
use Rattle.etcs_findings.proofs.refusal.put_path.Goals as goal

-- one step more
pub steps-preserved : goal.steps-preserved
steps-preserved c =
    next_added (λ s. step_json (step_view s)) c.token-2.new.self c.steps.out c.put_step.new.out c.args.path.now c.steps.step-index _
    c.steps-test.true c.steps.invariant c.in_ok-put_step.ensures

-- all of them, between the brackets of a list, after the key
pub returns : goal.returns
returns c =
    let steps = array (json_items step_json (map step_view c.args.path.now)) in
    on_ok_weaker c.token-3.result
    (λ ended. adds_member c.args.out.now (codes "path") steps c.in_ok-token.ensures.ok
    (makes_list (λ s. step_json (step_view s)) c.token.new.self c.token-2.new.self c.steps.out c.token-3.new.self c.args.path.now c.steps.step-index
    c.in_ok-token-2.ensures.ok c.steps-test.false c.steps.invariant ended
    ∙ ap (λ js. puts c.token.new.self (json_tokens (array js))) (items_of_view step_json step_view c.args.path.now))) c.token-3.ensures.ok
