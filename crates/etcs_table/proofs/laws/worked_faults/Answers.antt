use Rattle.std.proofs.Common.{refl}
use Rattle.etcs_rows.specs.Rows.{rows_after}
use Rattle.etcs_table.specs.Entries.{entries_of_rows}
use Rattle.etcs_table.specs.Faults.{all_checks, first_fault}
use Rattle.etcs_table.specs.Groups.{first_names, first_of, first_repeated}
use Rattle.etcs_table.proofs.laws.worked_faults.Goals as goal

-- Each is computed.
pub returns : goal.returns
unfolding rows_after all_checks entries_of_rows first_fault first_names first_of first_repeated
returns c = record { headless = refl; ambiguous = refl; title = refl; doubled = refl; nameless = refl; wide = refl; edge = refl; letter = refl; word = refl; unclosed = refl; rowless = refl; aspectless = refl; numberless = refl; again = refl; many = refl; odd = refl; shifted = refl }
