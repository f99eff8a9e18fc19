use Rattle.std.proofs.Common.{◌≡◌, ◌+◌, ◌-◌, ◌≤◌, length, drop}
use Rattle.etcs_run.specs.Counted.{failure_count, flush_count, wrapped}
use Rattle.etcs_run.specs.RadioHeld.{least_read, kept_bytes, messages_written}
use Rattle.etcs_run.specs.RadioStream.{bytes_output}
use Rattle.etcs_run.proofs.RadioLemmas.{Feeding}
use Rattle.etcs_run.proofs.radio_decoding.RadioDecoding.feed.Given as goal

abbrev pub invariant-messages : goal.invariant-messages
invariant-messages g l = record {
  feeding : Feeding (g.W.Write.contents (wrapped l.fn.writer)) (g.W.Write.contents (wrapped l.writer))
      (bytes_output (messages_written l.fn.self) (kept_bytes l.fn.self) l.bytes)
      (bytes_output (messages_written l.self) (kept_bytes l.self) (drop l.at l.bytes));
  within : l.at ≤ length l.bytes;
  writes : failure_count l.writer ≡ failure_count l.fn.writer;
  unflushed : flush_count l.writer ≡ flush_count l.fn.writer;
  paid : least_read l.self + (length l.bytes - l.at) ≤ least_read l.fn.self + length l.bytes;
}

abbrev pub decreases-messages : goal.decreases-messages
decreases-messages g l = length (kept_bytes l.self) + (length l.bytes - l.at)
