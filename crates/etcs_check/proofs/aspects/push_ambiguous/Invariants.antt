use Rattle.std.proofs.Common.{◌≡◌, ◌++◌, drop}
use Rattle.etcs_check.specs.Findings.{numbered_findings, for_each}
use Rattle.etcs_check.specs.Walk.{ambiguous_finding}
use Rattle.etcs_check.proofs.aspects.push_ambiguous.Given as goal

-- the findings so far and those about the rest are all findings
abbrev pub invariant-places : goal.invariant-places
invariant-places l =
    l.found.items ++ numbered_findings (ambiguous_finding l.spot l.aspects) l.place (drop l.place l.first) ≡ l.initial.found.items ++ for_each l.first (ambiguous_finding l.spot l.aspects)
