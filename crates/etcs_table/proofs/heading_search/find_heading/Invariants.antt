use Rattle.std.proofs.Common.{◌≡◌, length}
use Rattle.etcs_table.specs.Entries.{entries_of_sheet}
use Rattle.etcs_table.proofs.heading_search.find_heading.Given as goal

-- the rows that are left decide
abbrev pub invariant-rows : goal.invariant-rows
invariant-rows l = entries_of_sheet l.words l.reader ≡ entries_of_sheet l.words l.fn.reader

abbrev pub decreases-rows : goal.decreases-rows
decreases-rows l = length l.reader.rows
