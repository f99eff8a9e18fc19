-- The verdict on a table: the facts against its line, each with its rows. The facts are those of `check` about the groups
-- of a document, so a table is sound if and only if its line is.
use Rattle.std.specs.Prelude.{ℕ, List, [], length, Result, Ok, IsOkAnd}
use Rattle.etcs_check.specs.Line.{findings}
use Rattle.etcs_check.specs.Soundness.{IsSoundLine}
use Rattle.etcs_group.specs.Group.{Aspects}
use Rattle.etcs_table.specs.Entries.{Entry}
use Rattle.etcs_table.specs.Groups.{Group, groups_of_entries}
use Rattle.etcs_table.specs.Heading.{Words}
use Rattle.etcs_table_check.specs.FindingRows.{RowFinding, all_with_rows}
use Rattle.etcs_table_check.specs.Line.{groups_read, line_of_table, telegram_entries}
use Rattle.etcs_table_check.specs.Refusals.{◌then◌, in_table}
use Rattle.etcs_table_check.specs.declared.error.TableRefusal.{TableRefusal}

-- how many groups and telegrams a table has, and all facts against its line
pub record TableVerdict : Type 0 where
  pub groups : ℕ
  pub telegrams : ℕ
  pub findings : List RowFinding

-- the verdict on a line of so many telegrams, which these groups stand for
abbrev pub judged : ℕ → List Group → List Aspects → TableVerdict
judged telegrams groups line = record {
  groups = length groups;
  telegrams = telegrams;
  findings = all_with_rows groups (findings line []);
}

-- the verdict on groups of so many rows
abbrev pub verdict_of_groups : ℕ → List Group → Result TableVerdict TableRefusal
verdict_of_groups telegrams groups = groups_read groups then λ line. Ok (judged telegrams groups line)

abbrev pub verdict_of_entries : List Entry → Result TableVerdict TableRefusal
verdict_of_entries entries = in_table (groups_of_entries entries) then verdict_of_groups (length entries)

-- The verdict on a table, or why it is refused: for the first fault of its heading and rows, then for its first row whose
-- digits are no telegram, and then for the first fault of its groups.
abbrev pub verdict_of_table : Words → List ℕ → Result TableVerdict TableRefusal
verdict_of_table words bytes = telegram_entries words bytes then verdict_of_entries

-- the bytes are the table of a line, and this line is sound
abbrev pub IsSoundTable : Words → List ℕ → Type 0
IsSoundTable words bytes = IsOkAnd (line_of_table words bytes) (λ line. IsSoundLine line [])
