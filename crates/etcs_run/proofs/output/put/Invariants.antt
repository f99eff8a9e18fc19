use Rattle.std.proofs.Common.{◌≡◌, ◌-◌, ◌≤◌, length, take}
use Rattle.std.specs.Io.KnownBytes.{Appends}
use Rattle.etcs_run.specs.Counted.{failure_count, flush_count, wrapped}
use Rattle.etcs_run.proofs.output.put.Given as goal

abbrev pub invariant-writing : goal.invariant-writing
invariant-writing g l = record {
  within : l.count ≤ length l.text;
  appended : Appends (g.W.Write.contents (wrapped l.fn.writer))
      (g.W.Write.contents (wrapped l.writer)) (take l.count l.text);
  counts : failure_count l.writer ≡ failure_count l.fn.writer;
  unflushed : flush_count l.writer ≡ flush_count l.fn.writer;
}

abbrev pub decreases-writing : goal.decreases-writing
decreases-writing g l = length l.text - l.count
