use Rattle.std.proofs.Common.{◌≡◌, ◌++◌, drop}
use Rattle.etcs_check.specs.Findings.{numbered_findings}
use Rattle.etcs_check.specs.Line.{line_message_findings, message_list}
use Rattle.etcs_check.proofs.line.push_messages.Given as goal

-- the findings so far and those about the rest are all findings
abbrev pub invariant-places : goal.invariant-places
invariant-places l =
    l.found.items ++ numbered_findings line_message_findings l.place (drop l.place l.messages) ≡ l.initial.found.items ++ message_list l.messages
