use Rattle.std.proofs.Common.{refl}
use Rattle.etcs_rows.specs.Rows.{rows_after}
use Rattle.etcs_table.specs.Entries.{entries_of_rows}
use Rattle.etcs_table.specs.Faults.{all_checks, first_fault}
use Rattle.etcs_table.specs.Groups.{first_names, first_of, first_repeated}
use Rattle.etcs_table.proofs.laws.worked_tables.Goals as goal

-- Each is computed.
pub returns : goal.returns
unfolding rows_after all_checks entries_of_rows first_fault first_names first_of first_repeated
returns c = record { plain = refl; aspects = refl; quotes = refl }
