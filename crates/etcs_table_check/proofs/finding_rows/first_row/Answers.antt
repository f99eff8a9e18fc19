use Rattle.std.proofs.Common.{◌∙◌, List, None, ap}
use denote.Ref.{Bor}
use Rattle.etcs_table.proofs.LoopLemmas.{front, values}
use Rattle.etcs_table.specs.Entries.{Entry}
use Rattle.etcs_table.specs.Pointed.{pointed, pointed_lists}
use Rattle.etcs_table_check.proofs.FoldLemmas.{fold-more}
use Rattle.etcs_table_check.specs.FindingRows.{earlier_in}
use Rattle.etcs_table_check.proofs.finding_rows.first_row.Goals as goal

pub aspects-preserved : goal.aspects-preserved
aspects-preserved c =
    let lists = c.args.aspects.now in
    let i = c.aspects.balises-index in
    let b = c.balises-item.result in
    c.earlier_in-least.ensures
    ∙ ap (λ (s : List (Bor Entry)). earlier_in c.aspects.least (pointed s)) c.deref.ensures.value
    ∙ fold-more earlier_in None (pointed_lists lists) c.aspects.least i (values b) (front values lists i b c.aspects-test.true c.balises-item.is) c.aspects.invariant
