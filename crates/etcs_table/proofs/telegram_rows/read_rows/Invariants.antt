use Rattle.std.proofs.Common.{◌≡◌, length}
use Rattle.etcs_table.specs.Entries.{entries_after, entries_below}
use Rattle.etcs_table.proofs.telegram_rows.read_rows.Given as goal

-- the rows that are left decide
abbrev pub invariant-rows : goal.invariant-rows
invariant-rows l = entries_after l.rows.items l.columns l.reader.wrong l.reader.rows ≡ entries_below l.columns l.fn.reader.wrong l.fn.reader.rows

abbrev pub decreases-rows : goal.decreases-rows
decreases-rows l = length l.reader.rows
