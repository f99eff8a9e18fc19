use Rattle.std.proofs.Common.{◌≡◌, ◌++◌, drop}
use Rattle.etcs_check.specs.Findings.{numbered_findings, for_each}
use Rattle.etcs_check.specs.Walk.{unmodelled_finding}
use Rattle.etcs_check.proofs.balise_rules.push_unmodelled.Given as goal

-- the findings so far and those about the rest are all findings
abbrev pub invariant-places : goal.invariant-places
invariant-places l =
    l.found.items ++ numbered_findings (unmodelled_finding l.spot l.balise) l.place (drop l.place l.packets) ≡ l.initial.found.items ++ for_each l.packets (unmodelled_finding l.spot l.balise)
