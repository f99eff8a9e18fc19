use Rattle.std.proofs.Common.{◌∙◌, List, [], ap}
use denote.Ref.{Bor}
use Rattle.etcs_table.proofs.LoopLemmas.{front, values}
use Rattle.etcs_table.specs.Entries.{Entry}
use Rattle.etcs_table.specs.Pointed.{pointed, pointed_lists}
use Rattle.etcs_table_check.proofs.FoldLemmas.{fold-more}
use Rattle.etcs_table_check.specs.FindingRows.{with_balise}
use Rattle.etcs_table_check.proofs.finding_rows.balise_rows.Goals as goal

pub aspects-preserved : goal.aspects-preserved
aspects-preserved c =
    let lists = c.args.aspects.now in
    let i = c.aspects.balises-index in
    let b = c.balises-item.result in
    let place = c.args.place in
    c.in_ok-push_balise.ensures
    ∙ ap (λ (s : List (Bor Entry)). with_balise place c.aspects.rows.items (pointed s)) c.deref.ensures.value
    ∙ fold-more (with_balise place) [] (pointed_lists lists) c.aspects.rows.items i (values b) (front values lists i b c.aspects-test.true c.balises-item.is) c.aspects.invariant
