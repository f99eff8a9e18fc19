use Rattle.std.proofs.Common.{ap}
use Rattle.etcs_table.specs.Table.{groups_or_fault}
use Rattle.etcs_table_check.proofs.laws.table_is_both_steps.Goals as goal

-- The definition computes at what the first step gives.
pub returns : goal.returns
returns c = record {
  groups = λ words bytes entries is. ap groups_or_fault is;
  refused = λ words bytes fault is. ap groups_or_fault is;
}
