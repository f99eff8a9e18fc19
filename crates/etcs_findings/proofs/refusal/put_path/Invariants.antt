use Rattle.std.proofs.Common.{◌≡◌, drop}
use Rattle.json.specs.Tree.{items_tokens}
use Rattle.etcs_digits.specs.JsonLineWriter.{puts}
use Rattle.etcs_schema.specs.Fault.{step_view}
use Rattle.etcs_findings.specs.Members.{json_items}
use Rattle.etcs_findings.specs.Refusals.{step_json}
use Rattle.etcs_findings.proofs.refusal.put_path.Given as goal

-- the steps that are left make the same line
abbrev pub invariant-steps : goal.invariant-steps
invariant-steps l =
    puts l.initial.out (items_tokens (json_items (λ s. step_json (step_view s)) l.path))
    ≡ puts l.out (items_tokens (json_items (λ s. step_json (step_view s)) (drop l.step-index l.path)))
