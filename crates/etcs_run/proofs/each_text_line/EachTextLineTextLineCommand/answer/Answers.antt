use Rattle.std.proofs.Common.{◌≡◌, ◌∙◌, Ok, Err, sym, rules}
use Rattle.std.proofs.lemmas.Result.{err_from_is_err_and}
use Rattle.etcs_document.specs.Refusal.{line_words}
use Rattle.etcs_run.proofs.AnswerLemmas.{answer_failed, begins_answered, line_answered, line_skipped, put_done, put_failed}
use Rattle.etcs_run.proofs.each_text_line.EachTextLineTextLineCommand.answer.Goals as goal

-- nothing is written for an empty line
pub returns-then-is_empty-clause-answers_line : goal.returns-then-is_empty-clause-answers_line
returns-then-is_empty-clause-answers_line g c =
    line_skipped g.M.TextLineMeaning.meaning c.args.number c.args.line.now _ c.trim-line.ensures (sym c.is_empty.ensures ∙ c.if-is_empty.true)

-- the part of a text that was written is a beginning of the answer
pub returns-in_err-put-in-Ok-clause-answers_line : goal.returns-in_err-put-in-Ok-clause-answers_line
returns-in_err-put-in-Ok-clause-answers_line g c =
    let passed_on = err_from_is_err_and c.from_residual.result c.from_residual.ensures.1 in
    let means : g.M.TextLineMeaning.meaning c.trim-line.result.now ≡ Ok c.as_slice.result.now = search rules in
    rw passed_on.1 (line_answered g.M.TextLineMeaning.meaning c.args.number c.args.line.now _ (Err passed_on.0) c.trim-line.ensures (sym c.is_empty.ensures ∙ c.if-is_empty.false)
    (put_failed passed_on.0 c.put.ensures.written (begins_answered c.args.number means)))

-- the text was written
pub returns-in_ok-put-in-Ok-clause-answers_line : goal.returns-in_ok-put-in-Ok-clause-answers_line
returns-in_ok-put-in-Ok-clause-answers_line g c =
    let means : g.M.TextLineMeaning.meaning c.trim-line.result.now ≡ Ok c.as_slice.result.now = search rules in
    line_answered g.M.TextLineMeaning.meaning c.args.number c.args.line.now _ _ c.trim-line.ensures (sym c.is_empty.ensures ∙ c.if-is_empty.false)
    (put_done c.args.number c.in_ok-put-in-Ok.ensures.written means)

-- memory ran out
pub returns-in-Err-Memory-clause-answers_line : goal.returns-in-Err-Memory-clause-answers_line
returns-in-Err-Memory-clause-answers_line g c =
    line_answered g.M.TextLineMeaning.meaning c.args.number c.args.line.now _ _ c.trim-line.ensures (sym c.is_empty.ensures ∙ c.if-is_empty.false) (answer_failed _)

-- the line is refused
pub returns-in-Err-Refused-clause-answers_line : goal.returns-in-Err-Refused-clause-answers_line
returns-in-Err-Refused-clause-answers_line g c =
    let means : g.M.TextLineMeaning.meaning c.trim-line.result.now ≡ Err (line_words c.in-Err-Refused.why) = search rules in
    line_answered g.M.TextLineMeaning.meaning c.args.number c.args.line.now _ c.refuse_line.result c.trim-line.ensures (sym c.is_empty.ensures ∙ c.if-is_empty.false) (rw means c.refuse_line.ensures.answers_line)
