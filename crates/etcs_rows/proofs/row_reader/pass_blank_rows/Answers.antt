use Rattle.std.proofs.Common.{◌≡◌, ◌∙◌, ◌+◌, ap, arith, sym, true}
use Rattle.etcs_rows.specs.LineEnd.{after_line_end, begins_with_line_end}
use Rattle.etcs_rows.specs.Rows.{rows_from}
use Rattle.etcs_rows.proofs.MachineLemmas.{blank_row}
use Rattle.etcs_rows.proofs.row_reader.pass_blank_rows.Goals as goal

-- A blank row more was passed.
pub blank-preserved : goal.blank-preserved
blank-preserved c = record {
  rows = λ d n.
      let is : begins_with_line_end c.blank.rest.now ≡ true = sym c.begins_with_line_end.ensures ∙ c.blank-test.true in
      let more : n + c.blank.count + 1 ≡ n + (c.blank.count + 1) = omega arith in
      let passed = blank_row d (n + c.blank.count) c.blank.rest.now is in
      c.blank.invariant.rows d n ∙ passed
      ∙ ap (λ m. rows_from d m (after_line_end c.blank.rest.now)) more
      ∙ ap (rows_from d (n + (c.blank.count + 1))) (sym c.after_line_end-rest.ensures.rest);
  within = omega (arith, c.blank.invariant.within, c.after_line_end-rest.ensures.ahead);
}
