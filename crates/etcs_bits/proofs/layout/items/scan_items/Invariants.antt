use Rattle.std.proofs.Common.{◌≡◌, ◌-◌, length}
use Rattle.std.specs.List.{flat_map}
use Rattle.etcs_bits.specs.layout.Fields.{times}
use Rattle.etcs_bits.specs.layout.Reading.{read_rows}
use Rattle.etcs_bits.proofs.ListLemmas.{with_front}
use Rattle.etcs_bits.proofs.layout.items.scan_items.Given as goal

abbrev pub invariant-items : goal.invariant-items
invariant-items g l = record {
  count : length l.items.items ≡ l.counter;
  so_far : with_front (flat_map g.T.Layout.format.rows l.items.items)
      (read_rows (times (l.count - l.counter) g.T.Layout.format.fields) l.cur)
      ≡ read_rows (times l.count g.T.Layout.format.fields) l.fn.cur;
}
