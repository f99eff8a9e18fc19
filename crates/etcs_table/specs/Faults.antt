-- The faults of a table, and which of several is the first. Each is found by a check: a test, and the fault if it holds.
use Rattle.std.specs.Prelude.{◌≡◌, Bool, List, [], ◌∷◌, if◌then◌else◌, Option, None, Some, Result, Err}
use Rattle.etcs_rows.specs.declared.error.RowError.{RowError}
use Rattle.etcs_rows.specs.declared.error.RowError.TheVariants as rows
use Rattle.etcs_table.specs.declared.error.TableError.{TableError}
use Rattle.etcs_table.specs.declared.error.TableError.TheVariants as errors
use Rattle.etcs_table.specs.declared.error.TableFault.{TableFault}
use Rattle.etcs_table.specs.declared.error.TableFault.TheVariants.{NoHeading, Quote}

-- the fault of the first check that holds
unfoldable pub first_fault : List (Bool × TableFault) → Option TableFault
first_fault [] = None
first_fault (check ∷ checks) = if check.0 then Some check.1 else first_fault checks

-- the first fault, if there is one, else the second
abbrev pub or_else : Option TableFault → Option TableFault → Option TableFault
or_else (Some fault) later = Some fault
or_else None later = later

-- the first fault of a list, whose members are checked in their order
unfoldable pub all_checks : {X : Type 0} → (X → List (Bool × TableFault)) → List X → Option TableFault
all_checks checks [] = None
all_checks checks (x ∷ xs) = or_else (first_fault (checks x)) (all_checks checks xs)

-- a fault comes first
abbrev pub or_fault : {X : Type 0} → Option TableFault → Result X TableFault → Result X TableFault
or_fault (Some fault) value = Err fault
or_fault None value = value

-- A call that looks for this fault fails so: with the fault, or because memory ran out, which names no fault.
abbrev pub IsFoundAs : Option TableFault → TableError → Type 0
IsFoundAs found errors.Memory = Unit {0}
IsFoundAs found (errors.Fault fault) = found ≡ Some fault

-- A call that computes this result fails so: with its fault, or because memory ran out, which names no fault.
abbrev pub FailsAs : {X : Type 0} → Result X TableFault → TableError → Type 0
FailsAs result errors.Memory = Unit {0}
FailsAs result (errors.Fault fault) = result ≡ Err fault

-- the error if a row below the headings is not read
abbrev pub unread_row : RowError → TableError
unread_row rows.Memory = errors.Memory
unread_row (rows.Quote wrong) = errors.Fault (Quote wrong)

-- the error if no row is left that could be the heading row
abbrev pub unfound_heading : RowError → TableError
unfound_heading rows.Memory = errors.Memory
unfound_heading (rows.Quote wrong) = errors.Fault NoHeading
