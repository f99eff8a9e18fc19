use Rattle.std.proofs.Common.{ap, cond}
use Rattle.std.specs.List.{sum_by}
use Rattle.etcs_table.proofs.CountLemmas.{every-of, groups-count, order-count, own-count, some-aspect}
use Rattle.etcs_table.proofs.laws.no_row_is_left_out.Goals as goal

-- Each is counted with weight 1 for a row that passes the test, and 0 for the others.
pub returns : goal.returns
returns c = record {
  one_group = λ p entries. groups-count (λ e. cond (p e) 1 0) entries;
  one_aspect = λ p entries. own-count (λ e. cond (p e) 1 0) entries;
  each_aspect = λ p entries name. ap (sum_by (λ e. cond (p e) 1 0)) (every-of entries name);
  some_aspect = some-aspect;
  order = λ p entries. order-count (λ e. cond (p e) 1 0) entries;
}
