use Rattle.std.proofs.Common.{◌≡◌, ◌<◌, length}
use Rattle.std.specs.Io.KnownBytes.{Consumes}
use Rattle.etcs_run.specs.Counted.{read_budget, failure_count, wrapped}
use Rattle.etcs_run.proofs.whole_input.read_whole.Given as goal

-- all bytes read so far are kept
abbrev pub invariant-reading : goal.invariant-reading
invariant-reading g l = record {
  consumed : Consumes (g.R.Read.remaining (wrapped l.fn.reader))
      (g.R.Read.remaining (wrapped l.reader)) l.input.items;
  counts : failure_count l.reader ≡ failure_count l.fn.reader;
  room : 0 < length l.block.items;
}

-- each read that gives bytes lowers the budget
abbrev pub decreases-reading : goal.decreases-reading
decreases-reading g l = read_budget l.reader
