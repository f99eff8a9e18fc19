use Rattle.std.proofs.Common.{◌∙◌}
use Rattle.etcs_table.proofs.LoopLemmas.{front, value}
use Rattle.etcs_table.specs.Pointed.{pointed}
use Rattle.etcs_table_check.proofs.FoldLemmas.{fold-more}
use Rattle.etcs_table_check.specs.FindingRows.{earlier}
use Rattle.etcs_table_check.proofs.finding_rows.earlier_in.Goals as goal

pub balises-preserved : goal.balises-preserved
balises-preserved c =
    let rows = c.args.balises.now in
    let i = c.balises.e-index in
    let e = c.e-item.result in
    c.earlier-least.ensures ∙ fold-more earlier c.args.row (pointed rows) c.balises.least i e.now (front value rows i e c.balises-test.true c.e-item.is) c.balises.invariant
