use Rattle.std.proofs.Common.{rules, arith}
use Rattle.std.proofs.lemmas.Result.{err_from_is_err_and}
use Rattle.etcs_run.specs.LineReading.{held_bytes}
use Rattle.etcs_run.proofs.RunLemmas.{Running-answered, Running-cut, Running-end, Running-ended, Running-failed, Running-line, Running-start, Running-stopped}
use Rattle.etcs_run.proofs.answering.answer_lines.Goals as goal

pub lines-init : goal.lines-init
lines-init g c = record {
  running = Running-start (g.C.TextLineCommand.answers c.args.command.now) c.requires.fresh.0;
  reads = search rules;
  writes = search rules;
  unflushed = search rules;
  met = λ h. cc (h, c.requires.fresh.1);
  room = rw c.requires.fresh.0 (omega arith);
  paid = rw c.requires.fresh.0 (omega (arith, c.requires.uncounted));
}

-- a line was found and answered, and each line has cost at least one byte
pub lines-preserved : goal.lines-preserved
lines-preserved g c =
    let answers = g.C.TextLineCommand.answers in
    let held = held_bytes c.next.new.self in
    let read = rw c.if-branch.true at c.in_ok-next.ensures.reads in
    let found = Running-line (answers c.lines.command) c.lines.number c.lines.invariant.running read c.in_ok-next.ensures.ended in
    let line_answer = rw (c.in_default.is, c.line.ensures) at c.in_ok-status.ensures.answers_line in
    let paid = rw c.line.ensures at c.in_ok-status.ensures.bounded in
    record {
      running = Running-answered (answers c.lines.command) (answers c.answer.new.self) c.lines.number held found line_answer;
      reads = search rules;
      writes = search rules;
      unflushed = search rules;
      met = c.in_ok-next.ensures.met c.lines.invariant.met;
      room = omega (arith, c.in_ok-next.ensures.lowers_budget c.if-branch.true);
      paid = omega (arith, c.lines.invariant.paid, c.in_ok-next.ensures.bounded, paid);
    }

-- no next line could be read
pub returns-in_err-next-clause-ran : goal.returns-in_err-next-clause-ran
returns-in_err-next-clause-ran g c =
    let passed_on = err_from_is_err_and c.from_residual.result c.from_residual.ensures.1 in
    let next = c.in_err-next.ensures in
    rw passed_on.1 (Running-failed passed_on.0 c.lines.invariant.running next.reads next.ended
    (next.met c.lines.invariant.met))

-- the line was not answered completely
pub returns-in_err-status-clause-ran : goal.returns-in_err-status-clause-ran
returns-in_err-status-clause-ran g c =
    let answers = g.C.TextLineCommand.answers in
    let held = held_bytes c.next.new.self in
    let read = rw c.if-branch.true at c.in_ok-next.ensures.reads in
    let found = Running-line (answers c.lines.command) c.lines.number c.lines.invariant.running read c.in_ok-next.ensures.ended in
    let residual = c.from_residual-in_err-status in
    let passed_on = err_from_is_err_and residual.result residual.ensures.1 in
    let line_answer = rw c.line.ensures at c.in_err-status.ensures.answers_line in
    rw passed_on.1 (Running-cut (answers c.lines.command) (answers c.answer.new.self) c.lines.number held found passed_on.0 line_answer
    (c.in_ok-next.ensures.met c.lines.invariant.met))

-- the run stops at the line
pub returns-in-Stop-clause-ran : goal.returns-in-Stop-clause-ran
returns-in-Stop-clause-ran g c =
    let answers = g.C.TextLineCommand.answers in
    let held = held_bytes c.next.new.self in
    let read = rw c.if-branch.true at c.in_ok-next.ensures.reads in
    let found = Running-line (answers c.lines.command) c.lines.number c.lines.invariant.running read c.in_ok-next.ensures.ended in
    let line_answer = rw (c.in-Stop.is, c.line.ensures) at c.in_ok-status.ensures.answers_line in
    Running-stopped (answers c.lines.command) (answers c.answer.new.self) c.lines.number held found line_answer (c.in_ok-next.ensures.met c.lines.invariant.met)

-- there is no further line
pub returns-clause-ran : goal.returns-clause-ran
returns-clause-ran g c =
    let answers = g.C.TextLineCommand.answers in
    let read = rw c.if-branch.false at c.in_ok-next.ensures.reads in
    let last = Running-end (answers c.lines.command) c.lines.number c.lines.invariant.running read c.in_ok-next.ensures.ended in
    Running-ended last (c.end.ensures.writes _) (c.in_ok-next.ensures.met c.lines.invariant.met)
