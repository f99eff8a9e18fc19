use Rattle.std.proofs.lemmas.List.{drop_all}
use Rattle.etcs_table_check.proofs.FoldLemmas.{begins}
use Rattle.etcs_table_check.proofs.ReadLemmas.{refused-ended, refused-found, refused-passed}
use Rattle.etcs_table_check.proofs.telegrams.check_rows.Goals as goal

-- the digits of the row are a telegram
pub rows-preserved : goal.rows-preserved
rows-preserved c =
    let rows = c.args.rows.now in
    let i = c.rows.row-index in
    refused-passed rows i c.row-item.result _ _ (begins rows i c.row-item.result c.rows-test.true c.row-item.is) c.in-Ok.ensures c.rows.invariant

-- the row is refused, and none before it
pub returns-in-Err-clause-err : goal.returns-in-Err-clause-err
returns-in-Err-clause-err c =
    let rows = c.args.rows.now in
    let i = c.rows.row-index in
    refused-found rows i c.row-item.result c.in-Err.error _ (begins rows i c.row-item.result c.rows-test.true c.row-item.is) c.in-Err.ensures c.rows.invariant

pub returns-clause-ok : goal.returns-clause-ok
returns-clause-ok c = refused-ended c.args.rows.now c.rows.row-index _ (drop_all c.rows.row-index c.args.rows.now c.rows-test.false) c.rows.invariant
