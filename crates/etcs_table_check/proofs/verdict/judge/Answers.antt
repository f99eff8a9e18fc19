use Rattle.std.proofs.Common.{◌∙◌, [], ap}
use Rattle.etcs_table_check.proofs.VerdictLemmas.{groups-judged, groups-sound}
use Rattle.etcs_table_check.specs.FindingRows.{all_with_rows}
use Rattle.etcs_table_check.specs.Line.{groups_read}
use Rattle.etcs_table_check.proofs.verdict.judge.Goals as goal

-- the facts are those against the line that the checker has taken
pub returns-clause-exact : goal.returns-clause-exact
returns-clause-exact c =
    let groups = c.args.groups.now in
    groups-judged groups c.in-Ok.checker c.in_ok-found.found.items c.in_ok-findings.findings.items c.args.telegrams (groups_read groups) c.in-Ok.ensures.ok (λ gs checked. c.in_ok-found.ensures.ok gs [] checked) (c.in_ok-findings.ensures ∙ ap (all_with_rows groups) c.as_slice.ensures.value)

-- no fact means that the line is sound
pub returns-clause-yes : goal.returns-clause-yes
returns-clause-yes c =
    let groups = c.args.groups.now in
    groups-sound groups c.in-Ok.checker c.in_ok-found.found.items c.in_ok-findings.findings.items (groups_read groups) c.in-Ok.ensures.ok (λ gs checked. c.in_ok-found.ensures.sound gs [] checked) (c.in_ok-findings.ensures ∙ ap (all_with_rows groups) c.as_slice.ensures.value)
