use Rattle.std.proofs.Common.{[], ◌≡◌, subst, sym}
use Rattle.std.specs.Prelude.{◌↔◌, IfOk, IsOkAnd}
use Rattle.etcs_check.specs.Soundness.{IsSoundLine}
use Rattle.etcs_table_check.proofs.LineLemmas.{line-of-groups}
use Rattle.etcs_table_check.proofs.ShapeLemmas.{groups-shaped}
use Rattle.etcs_table_check.specs.Line.{telegram_entries}
use Rattle.etcs_table_check.specs.Shape.{AreShaped}
use Rattle.etcs_table_check.proofs.verdict.check_table.Goals as goal

-- the groups have no fault
pub judge-requires : goal.judge-requires
judge-requires c =
    subst AreShaped (sym c.as_slice.ensures.value) (groups-shaped c.as_slice-entries.result.now c.in-Ok-groups_of_entries.groups.items c.in-Ok-groups_of_entries.ensures.groups)

-- the groups that are judged stand for the line of the table
pub returns-clause-yes : goal.returns-clause-yes
returns-clause-yes c =
    let of_table = line-of-groups (telegram_entries c.args.words.now c.args.bytes.now) c.in-Ok.rows.items c.as_slice-entries.result.now c.in-Ok-groups_of_entries.groups.items c.as_slice.result.now c.in-Ok.ensures c.as_slice-entries.ensures.value c.in-Ok-groups_of_entries.ensures.groups c.as_slice.ensures.value in
    subst (λ line. IfOk c.judge.result (λ v. (v.findings ≡ []) ↔ IsOkAnd line (λ it. IsSoundLine it []))) of_table c.judge.ensures.yes
