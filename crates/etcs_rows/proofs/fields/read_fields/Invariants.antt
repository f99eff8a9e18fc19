use Rattle.std.proofs.Common.{◌≡◌, ◌≤◌, [], length}
use Rattle.etcs_rows.specs.Fields.{rows_in}
use Rattle.etcs_rows.proofs.fields.read_fields.Given as goal

abbrev pub invariant-fields : goal.invariant-fields
invariant-fields l = record {
  left : rows_in l.delimiter l.row l.fields.items l.rest ≡ rows_in l.delimiter l.row [] l.fn.text;
  ahead : length l.rest ≤ length l.fn.text;
}

abbrev pub decreases-fields : goal.decreases-fields
decreases-fields l = length l.rest
