use Rattle.std.proofs.Common.{◌≤◌, ◌≡◌, ◌+◌, true, length}
use Rattle.etcs_run.specs.Counted.{read_budget, failure_count, wrapped}
use Rattle.etcs_run.specs.LineReading.{IsEndMet, has_ended, held_bytes, last_line}
use Rattle.etcs_run.specs.TextLines.{HasLine}
use Rattle.etcs_run.proofs.FillLemmas.{Filling}
use Rattle.etcs_run.proofs.text_lines.TextLines.next.Given as goal

abbrev pub invariant-filling : goal.invariant-filling
invariant-filling g l = record {
  filling : Filling (g.R.Read.remaining (wrapped l.fn.reader))
      (g.R.Read.remaining (wrapped l.reader)) (has_ended l.fn.self)
      (held_bytes l.fn.self) (last_line l.self) (held_bytes l.self);
  counts : failure_count l.reader ≡ failure_count l.fn.reader;
  ended : has_ended l.fn.self ≡ true → has_ended l.self ≡ true;
  met : IsEndMet g.R.Read.remaining (has_ended l.fn.self) l.fn.reader
      → IsEndMet g.R.Read.remaining (has_ended l.self) l.reader;
  held : HasLine (held_bytes l.fn.self)
      → (l.reader ≡ l.fn.reader) × (held_bytes l.self ≡ held_bytes l.fn.self);
  unread : has_ended l.fn.self ≡ true → l.reader ≡ l.fn.reader;
  lowers_budget : length (last_line l.self) + length (held_bytes l.self) + read_budget l.reader
      ≤ length (held_bytes l.fn.self) + read_budget l.fn.reader;
}

abbrev pub decreases-filling : goal.decreases-filling
decreases-filling g l = read_budget l.reader
