-- How a call fails that looks for the first fault.
use Rattle.std.specs.Prelude.{◌≡◌, Option, Some}
use Rattle.etcs_table.specs.declared.error.TableError.{TableError}
use Rattle.etcs_table.specs.declared.error.TableError.TheVariants as errors
use Rattle.etcs_table.specs.declared.error.TableFault.{TableFault}

-- A call fails so if this is the first fault: with it, or because memory ran out, which names no fault.
abbrev pub IsFirstFault : Option TableFault → TableError → Type 0
IsFirstFault first errors.Memory = Unit {0}
IsFirstFault first (errors.Fault fault) = first ≡ Some fault
