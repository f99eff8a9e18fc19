-- What `balisecheck_table` writes for a table: the report on it, or why it is refused. And what it writes if there are
-- words after its name.
use Rattle.std.specs.Prelude.{ℕ, List, [], ◌∷◌, codes, Option, Some, None, Result, Ok, Err}
use Rattle.etcs_run.specs.Output.{Output}
use Rattle.etcs_run.specs.declared.status.Status.{Status}
use Rattle.etcs_run.specs.declared.status.Status.TheVariants.{Done, Findings, Refused}
use Rattle.etcs_table.specs.Heading.{Words, usual_words}
use Rattle.etcs_table_check.specs.FindingRows.{RowFinding}
use Rattle.etcs_table_check.specs.RefusalText.{refusal_words}
use Rattle.etcs_table_check.specs.ReportText.{verdict_words}
use Rattle.etcs_table_check.specs.Verdict.{TableVerdict, verdict_of_table}
use Rattle.etcs_table_check.specs.declared.error.TableRefusal.{TableRefusal}

-- the status of a check: Done if there are no findings
abbrev pub table_status : List RowFinding → Status
table_status [] = Done
table_status (_ ∷ _) = Findings

-- the report, or the refusal
abbrev pub answered : Result TableVerdict TableRefusal → Output
answered (Ok verdict) = (verdict_words verdict, table_status verdict.findings)
answered (Err why) = (refusal_words why, Refused)

-- what is written for the bytes of a table with these headings
unfoldable pub table_output : Words → List ℕ → Output
table_output words bytes = answered (verdict_of_table words bytes)

-- ---- the words of a command line

-- the usage line
abbrev pub usage : List ℕ
usage = codes "refused: usage is balisecheck_table, and the table is standard input\n"

-- the headings that are looked for, unless there are words after the program's name
abbrev pub headings_of : List (List ℕ) → Option Words
headings_of (name ∷ other ∷ words) = None
headings_of words = Some usual_words

-- what is written for an input, also if there are such words
abbrev pub of_headings : Option Words → List ℕ → Output
of_headings (Some headings) input = table_output headings input
of_headings None input = (usage, Refused)

-- what is written for the words of a command line and an input
unfoldable pub program_output : List (List ℕ) → List ℕ → Output
program_output words input = of_headings (headings_of words) input
