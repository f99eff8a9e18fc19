use Rattle.std.proofs.Common.{rules, arith, ap, sym, ◌≡◌, ◌∙◌, ◌==◌, not, true, length, length-append, []}
use Rattle.etcs_run.specs.LineReading.{has_ended, held_bytes, last_line}
use Rattle.etcs_run.proofs.FillLemmas.{Filling-cut, Filling-end, Filling-filled, Filling-moved, empty_unless_found, found_exactly, moved_cut, moved_on, nil_from_none}
use Rattle.etcs_run.proofs.LineLemmas.{no_line_in}
use Rattle.etcs_run.proofs.text_lines.TextLines.next.Goals as goal

-- all held bytes went to the line, and the bytes just read are held now
pub filling-preserved : goal.filling-preserved
filling-preserved g c =
    let moved = moved_on c.if-not-branch.true c.in_ok-move_line.ensures.moves in
    let read = c.in_ok-refill.ensures in
    let same_end = c.in_ok-move_line.ensures.same_end in
    let first = Filling-moved c.filling.invariant.filling moved.0.line moved.0.plain in
    let none : has_ended c.args.self.now ≡ true → held_bytes c.refill.new.self ≡ [] =
    λ h. nil_from_none _ (read.read.1 ∙ read.quiet (same_end ∙ c.filling.invariant.ended h)) in
    let grown = ap length moved.0.line in
    record {
      filling = rw read.line (Filling-filled first none read.read.0);
      counts = search rules;
      ended = search rules;
      met = λ h. read.met (rw same_end (c.filling.invariant.met h));
      held = λ has. absurd (no_line_in has (c.filling.invariant.held has).1 moved.0.plain);
      unread = λ h. read.unread (same_end ∙ c.filling.invariant.ended h) ∙ c.filling.invariant.unread h;
      lowers_budget = rw read.line (omega (
        arith,
        grown,
        length-append (last_line c.filling.self) (held_bytes c.filling.self),
        c.filling.invariant.lowers_budget,
        read.lowers_budget,
        read.read.1,
      ));
    }

-- the read gave nothing, so the end was reached
pub returns-then-branch-eq0-clause-reads : goal.returns-then-branch-eq0-clause-reads
returns-then-branch-eq0-clause-reads g c =
    let moved = moved_on c.if-not-branch.true c.in_ok-move_line.ensures.moves in
    let read = c.in_ok-refill.ensures in
    let same_end = c.in_ok-move_line.ensures.same_end in
    let first = Filling-moved c.filling.invariant.filling moved.0.line moved.0.plain in
    let none : has_ended c.args.self.now ≡ true → held_bytes c.refill.new.self ≡ [] =
    λ h. nil_from_none _ (read.read.1 ∙ read.quiet (same_end ∙ c.filling.invariant.ended h)) in
    let then = Filling-filled first none read.read.0 in
    let short : length (held_bytes c.refill.new.self) ≡ 0 = read.read.1 ∙ c.if-branch-eq0.true in
    let empty : c.is_empty.result ≡ (length (last_line c.refill.new.self) == 0) = search rules in
    let ended = read.read.2 c.if-branch-eq0.true in
    Filling-end (rw read.line then) (nil_from_none _ short) ended (ap not empty)

-- a `\n` was held
pub returns-clause-reads : goal.returns-clause-reads
returns-clause-reads g c =
    let moved = moved_cut c.if-not-branch.false c.in_ok-move_line.ensures.moves in
    Filling-cut _ c.filling.invariant.filling moved.1.line moved.1.plain moved.2

-- what was read is all that is known to remain
pub returns-then-branch-eq0-clause-no_line : goal.returns-then-branch-eq0-clause-no_line
returns-then-branch-eq0-clause-no_line g c met =
    let same_end = c.in_ok-move_line.ensures.same_end in
    let before = c.filling.invariant.met met in
    found_exactly _ _ _ (returns-then-branch-eq0-clause-reads g c)
    (c.in_ok-refill.ensures.met (λ ended. before (sym same_end ∙ ended)))

pub returns-clause-no_line : goal.returns-clause-no_line
returns-clause-no_line g c met =
    let same_end = c.in_ok-move_line.ensures.same_end in
    found_exactly _ _ _ (returns-clause-reads g c) (λ ended. c.filling.invariant.met met (sym same_end ∙ ended))

pub returns-then-branch-eq0-clause-empty : goal.returns-then-branch-eq0-clause-empty
returns-then-branch-eq0-clause-empty g c none =
    let empty : c.is_empty.result ≡ (length (last_line c.refill.new.self) == 0) = search rules in
    empty_unless_found _ _ empty none

-- the held bytes had no `\n`, so no complete line was held
pub returns-then-branch-eq0-clause-held : goal.returns-then-branch-eq0-clause-held
returns-then-branch-eq0-clause-held g c has =
    let moved = moved_on c.if-not-branch.true c.in_ok-move_line.ensures.moves in
    absurd (no_line_in has (c.filling.invariant.held has).1 moved.0.plain)

pub returns-in_err-refill-clause-held : goal.returns-in_err-refill-clause-held
returns-in_err-refill-clause-held g c has =
    let moved = moved_on c.if-not-branch.true c.in_ok-move_line.ensures.moves in
    absurd (no_line_in has (c.filling.invariant.held has).1 moved.0.plain)

-- the end was reached before, and no reader is called after it
pub returns-then-branch-eq0-clause-unread : goal.returns-then-branch-eq0-clause-unread
returns-then-branch-eq0-clause-unread g c h =
    let same_end = c.in_ok-move_line.ensures.same_end in
    c.in_ok-refill.ensures.unread (same_end ∙ c.filling.invariant.ended h) ∙ c.filling.invariant.unread h

pub returns-in_err-refill-clause-unread : goal.returns-in_err-refill-clause-unread
returns-in_err-refill-clause-unread g c h =
    let same_end = c.in_ok-move_line.ensures.same_end in
    c.in_err-refill.ensures.unread (same_end ∙ c.filling.invariant.ended h) ∙ c.filling.invariant.unread h
