-- What a status says about a table.
use Rattle.std.specs.Prelude.{◌≡◌, ◌↔◌, ℕ, List}
use Rattle.etcs_run.specs.declared.status.Status.TheVariants.{Done}
use Rattle.etcs_table.specs.Heading.{Words}
use Rattle.etcs_table_check.specs.Verdict.{IsSoundTable}
use Rattle.etcs_table_run.specs.TableOutput.{table_output}

-- the status is Done if and only if the bytes are the table of a sound line
abbrev pub DoneIsSound : Type 0
DoneIsSound = (words : Words) (bytes : List ℕ) → ((table_output words bytes).1 ≡ Done) ↔ IsSoundTable words bytes
