use Rattle.std.proofs.Common.{◌≡◌, drop}
use Rattle.json.specs.Tree.{items_tokens}
use Rattle.etcs_digits.specs.JsonLineWriter.{puts}
use Rattle.etcs_findings.specs.Findings.{finding_json}
use Rattle.etcs_findings.specs.Members.{json_items}
use Rattle.etcs_findings.proofs.finding.put_findings.Given as goal

-- the findings that are left make the same line
abbrev pub invariant-findings : goal.invariant-findings
invariant-findings l =
    puts l.initial.out (items_tokens (json_items finding_json l.findings))
    ≡ puts l.out (items_tokens (json_items finding_json (drop l.finding-index l.findings)))
