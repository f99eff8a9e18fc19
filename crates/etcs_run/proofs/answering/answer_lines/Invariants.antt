use Rattle.std.proofs.Common.{◌≡◌, ◌+◌, ◌<◌, ◌^◌, length}
use Rattle.etcs_run.specs.Counted.{read_budget, failure_count, flush_count, wrapped}
use Rattle.etcs_run.specs.LineReading.{IsEndMet, has_ended, held_bytes}
use Rattle.etcs_run.specs.Output.{line_by_line}
use Rattle.etcs_run.proofs.RunLemmas.{Running, left_of}
use Rattle.etcs_run.proofs.answering.answer_lines.Given as goal

abbrev pub invariant-lines : goal.invariant-lines
invariant-lines g l = record {
  running : Running (g.R.Read.remaining (wrapped l.fn.reader))
      (g.R.Read.remaining (wrapped l.reader)) (g.W.Write.contents (wrapped l.fn.writer))
      (g.W.Write.contents (wrapped l.writer)) (has_ended l.lines)
      (line_by_line (g.C.TextLineCommand.answers l.fn.command)) (left_of (g.C.TextLineCommand.answers l.command) l.number (held_bytes l.lines));
  reads : failure_count l.reader ≡ failure_count l.fn.reader;
  writes : failure_count l.writer ≡ failure_count l.fn.writer;
  unflushed : flush_count l.writer ≡ flush_count l.fn.writer;
  met : IsEndMet g.R.Read.remaining (has_ended l.lines) l.reader;
  room : l.number + (length (held_bytes l.lines) + read_budget l.reader) < 2 ^ 64;
  paid : g.C.TextLineCommand.count_bound l.command + (length (held_bytes l.lines) + read_budget l.reader) < 2 ^ 64;
}

abbrev pub decreases-lines : goal.decreases-lines
decreases-lines g l = length (held_bytes l.lines) + read_budget l.reader
