use Rattle.std.proofs.Common.{◌≡◌}
use Rattle.etcs_table.specs.Heading.{gives_heading}
use Rattle.etcs_table.proofs.RowLemmas.{heading_among}
use Rattle.etcs_table.proofs.heading_search.gives_heading.Given as goal

-- the rows that are left decide
abbrev pub invariant-rows : goal.invariant-rows
invariant-rows l = gives_heading l.words l.text l.fn.delimiter ≡ heading_among l.words l.left l.reader.rows

abbrev pub decreases-rows : goal.decreases-rows
decreases-rows l = l.left
