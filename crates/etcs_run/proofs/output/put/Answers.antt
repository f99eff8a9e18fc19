use Rattle.std.proofs.Common.{rules}
use Rattle.etcs_run.proofs.StreamLemmas.{Appends-more}
use Rattle.etcs_run.proofs.output.put.Goals as goal

pub writing-preserved : goal.writing-preserved
writing-preserved g c = record {
  within = search rules;
  appended = Appends-more _ _ _ _ _ _ c.writing.invariant.appended c.in_ok-count.ensures.bytes;
  counts = search rules;
  unflushed = search rules;
}
