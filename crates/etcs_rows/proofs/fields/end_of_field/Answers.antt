use Rattle.std.proofs.Common.{◌≡◌, ◌∙◌, ◌<◌, arith, length, sym, true}
use Rattle.std.proofs.lemmas.Bool.Decides.{nat_tests}
use Rattle.etcs_rows.specs.LineEnd.{begins_with_line_end}
use Rattle.etcs_rows.proofs.MachineLemmas.{ends_before_delimiter, ends_before_line_end, ends_with_text}
use Rattle.etcs_rows.proofs.fields.end_of_field.Goals as goal

-- the text ends
pub returns-then-is_empty-clause-ends : goal.returns-then-is_empty-clause-ends
returns-then-is_empty-clause-ends c = ends_with_text c.args.delimiter c.args.text.now (grind (arith, nat_tests, c.is_empty.ensures, c.if-is_empty.true))

-- a delimiter is next
pub returns-then-text-delimiter-clause-ends : goal.returns-then-text-delimiter-clause-ends
returns-then-text-delimiter-clause-ends c =
    let some : 0 < length c.args.text.now = grind (arith, nat_tests, c.is_empty.ensures, c.if-is_empty.false) in
    rw c.split_at.ensures.back (ends_before_delimiter c.args.delimiter c.args.text.now c.requires.not_quote some c.if-text-delimiter.true)

-- a line end is next
pub returns-then-begins_with_line_end-clause-ends : goal.returns-then-begins_with_line_end-clause-ends
returns-then-begins_with_line_end-clause-ends c =
    let is : begins_with_line_end c.args.text.now ≡ true = sym c.begins_with_line_end.ensures ∙ c.if-begins_with_line_end.true in
    rw c.after_line_end.ensures.rest (ends_before_line_end c.args.delimiter c.args.text.now is c.if-text-delimiter.false)
