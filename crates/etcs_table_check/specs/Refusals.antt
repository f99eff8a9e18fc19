-- How a table is refused, step by step: a step is only done if no step before it refuses the table.
use Rattle.std.specs.Prelude.{◌≡◌, Option, None, Some, Result, Ok, Err}
use Rattle.etcs_table.specs.declared.error.TableError.{TableError}
use Rattle.etcs_table.specs.declared.error.TableError.TheVariants as tables
use Rattle.etcs_table.specs.declared.error.TableFault.{TableFault}
use Rattle.etcs_table_check.specs.declared.error.CheckTableError.{CheckTableError}
use Rattle.etcs_table_check.specs.declared.error.CheckTableError.TheVariants as errors
use Rattle.etcs_table_check.specs.declared.error.TableRefusal.{TableRefusal}
use Rattle.etcs_table_check.specs.declared.error.TableRefusal.TheVariants as refusals

-- the result of the next step, unless the table is refused
infixl 10 ◌then◌
abbrev pub ◌then◌ : {A B : Type 0} → Result A TableRefusal → (A → Result B TableRefusal) → Result B TableRefusal
(Ok x) then next = next x
(Err why) then next = Err why

-- a fault of a table refuses it
abbrev pub in_table : {A : Type 0} → Result A TableFault → Result A TableRefusal
in_table (Ok x) = Ok x
in_table (Err fault) = Err (refusals.Table fault)

-- the first refusal of the two, if there is one
abbrev pub or_else : Option TableRefusal → Option TableRefusal → Option TableRefusal
or_else (Some why) later = Some why
or_else None later = later

-- a refusal comes first
abbrev pub or_refused : {A : Type 0} → Option TableRefusal → Result A TableRefusal → Result A TableRefusal
or_refused (Some why) value = Err why
or_refused None value = value

-- ---- what a call returned

-- A call that looks for the first refusal fails so: with it, or because memory ran out, which names none.
abbrev pub IsFirst : Option TableRefusal → CheckTableError → Type 0
IsFirst first errors.Memory = Unit {0}
IsFirst first (errors.Refused why) = first ≡ Some why

-- the error if a table is not read
abbrev pub unread_table : TableError → CheckTableError
unread_table tables.Memory = errors.Memory
unread_table (tables.Fault fault) = errors.Refused (refusals.Table fault)

-- A call that computes this result fails so: with its refusal, or because memory ran out, which names none.
abbrev pub FailsAs : {A : Type 0} → CheckTableError → Result A TableRefusal → Type 0
FailsAs errors.Memory meaning = Unit {0}
FailsAs (errors.Refused why) meaning = meaning ≡ Err why

-- What a call returned, seen through `view`, is this result, unless memory ran out.
abbrev pub Gives : {X Y : Type 0} → (X → Y) → Result X CheckTableError → Result Y TableRefusal → Type 0
Gives view (Ok x) meaning = meaning ≡ Ok (view x)
Gives view (Err e) meaning = FailsAs e meaning
