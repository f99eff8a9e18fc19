use Rattle.std.proofs.Common.{◌≡◌, ◌+◌, ◌≤◌, ℕ, length}
use Rattle.etcs_rows.specs.Rows.{rows_from}
use Rattle.etcs_rows.proofs.row_reader.pass_blank_rows.Given as goal

abbrev pub invariant-blank : goal.invariant-blank
invariant-blank l = record {
  rows : (delimiter number : ℕ) → rows_from delimiter number l.fn.text ≡ rows_from delimiter (number + l.count) l.rest;
  within : l.count + length l.rest ≤ length l.fn.text;
}

abbrev pub decreases-blank : goal.decreases-blank
decreases-blank l = length l.rest
