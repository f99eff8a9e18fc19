use Rattle.std.proofs.Common.{ℕ, ◌+◌, ap, ◌∙◌}
use Rattle.std.proofs.lemmas.List.{length_push}
use Rattle.std.specs.List.{flat_map}
use Rattle.std.proofs.lemmas.Result.{err_from_is_err_and}
use Rattle.etcs_bits.specs.layout.Fields.{times}
use Rattle.etcs_bits.specs.layout.Reading.{read_rows}
use Rattle.etcs_bits.proofs.ListLemmas.{goes_on, ends}
use Rattle.etcs_bits.proofs.layout.items.scan_items.Goals as goal

pub returns-in_err-item-clause-gives : goal.returns-in_err-item-clause-gives
returns-in_err-item-clause-gives g c =
    let failed = err_from_is_err_and c.from_residual.result c.from_residual.ensures.1 in
    rw (failed.1, failed.2) (ends c.in_err-item.field-0.0 (flat_map g.T.Layout.format.rows c.items.items.items) g.T.Layout.format.fields c.args.count c.items.counter c.items.cur (read_rows (times c.args.count g.T.Layout.format.fields) c.args.cur.now) c.items-test.true c.in_err-item.ensures.gives c.items.invariant.so_far)

pub items-preserved : goal.items-preserved
items-preserved g c =
    let item = c.in_ok-item.item in
    record {
      count = rw c.in_ok-push.ensures.items (length_push c.items.items.items item ∙ ap (λ (n : ℕ). n + 1) c.items.invariant.count);
      so_far = rw c.in_ok-push.ensures.items (goes_on g.T.Layout.format.rows g.T.Layout.format.fields c.items.items.items item c.args.count c.items.counter c.items.cur c.scan.new.cur (read_rows (times c.args.count g.T.Layout.format.fields) c.args.cur.now) c.items-test.true c.in_ok-item.ensures.gives c.items.invariant.so_far);
    }
