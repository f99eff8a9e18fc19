-- Rows of findings and reports that are worked out, as examples of the definitions, and what a verdict is about.
use Rattle.std.specs.Prelude.{◌≡◌, ℕ, List, [], ◌∷◌, codes, Option, None, Some, Ok, Err, IsOkAnd}
use Rattle.etcs_check.specs.declared.finding.Finding.{Finding}
use Rattle.etcs_check.specs.declared.finding.Rule.TheVariants as rules
use Rattle.etcs_check.specs.declared.finding.Site.TheVariants as sites
use Rattle.etcs_group.specs.Group.{Aspects}
use Rattle.etcs_profile.specs.declared.run.Run.TheVariants as runs
use Rattle.etcs_table.specs.Entries.{Entry, entries_of}
use Rattle.etcs_table.specs.Groups.{Group, groups_of_entries}
use Rattle.etcs_table.specs.Heading.{Words}
use Rattle.etcs_table.specs.Table.{table_of}
use Rattle.etcs_table.specs.declared.error.TableFault.{TableFault}
use Rattle.etcs_table_check.specs.FindingRows.{RowFinding, rows_of}
use Rattle.etcs_table_check.specs.Line.{groups_read, line_of_table}
use Rattle.etcs_table_check.specs.ReportText.{report_words}
use Rattle.etcs_table_check.specs.Shape.{AreShaped}

-- ---- examples

abbrev pub entry_at : ℕ → Entry
entry_at row = record { row = row; group = []; aspect = []; number = None; digits = [] }

-- two groups: one balise in row 5; two balises in two aspects, the first of which has row 3 in both
abbrev pub two_groups : List Group
two_groups =
    record { name = codes "A"; aspects = (entry_at 5 ∷ []) ∷ [] }
    ∷ record { name = codes "B"; aspects = (entry_at 3 ∷ entry_at 2 ∷ []) ∷ (entry_at 3 ∷ entry_at 4 ∷ []) ∷ [] }
    ∷ []

-- a finding about a group, with or without an aspect and a balise
abbrev pub fact_at : ℕ → Option ℕ → Option ℕ → Finding
fact_at g a b = record { rule = rules.NotToldApart; site = sites.Group g; aspect = a; dir = None; balise = b; packet = None }

pub record WorkedRows : Type 0 where
  pub balise : rows_of two_groups (fact_at 0 None (Some 0)) ≡ 5 ∷ []
  pub all_aspects : rows_of two_groups (fact_at 1 None (Some 1)) ≡ 2 ∷ 4 ∷ []
  pub every_aspect : rows_of two_groups (fact_at 1 None (Some 0)) ≡ 3 ∷ []
  pub one_aspect : rows_of two_groups (fact_at 1 (Some 1) (Some 1)) ≡ 4 ∷ []
  pub group : rows_of two_groups (fact_at 1 None None) ≡ 2 ∷ []
  pub aspect : rows_of two_groups (fact_at 1 (Some 1) None) ≡ 3 ∷ []

abbrev pub short_gradient : RowFinding
short_gradient = record {
  finding = record { rule = rules.GradientShort; site = sites.Group 4; aspect = None; dir = Some runs.Nominal; balise = Some 0; packet = Some 1 };
  rows = 23 ∷ [];
}

abbrev pub ambiguous : RowFinding
ambiguous = record { finding = fact_at 1 (Some 1) (Some 1); rows = 2 ∷ 14 ∷ 4 ∷ [] }

pub record WorkedReports : Type 0 where
  pub yes : report_words 12 40 [] ≡ codes "yes: groups 12, telegrams 40\n"
  pub no : report_words 12 40 (short_gradient ∷ ambiguous ∷ [])
      ≡ codes "no: findings 2\nF11 row 23 packet 1 nominal: gradient short\nF16 rows 2, 14, 4 aspect 1: aspects not told apart\n"

-- ---- what a verdict is about

-- The groups of a table are found in two steps, one after the other: its entries, and their groups.
pub record TableIsBothSteps : Type 0 where
  pub groups : (words : Words) (bytes : List ℕ) (entries : List Entry) → entries_of words bytes ≡ Ok entries
      → table_of words bytes ≡ groups_of_entries entries
  pub refused : (words : Words) (bytes : List ℕ) (fault : TableFault) → entries_of words bytes ≡ Err fault
      → table_of words bytes ≡ Err fault

-- the line of a table has the telegrams of the groups that the table stands for
abbrev pub LineIsOfTable : Type 0
LineIsOfTable = (words : Words) (bytes : List ℕ) (line : List Aspects) → line_of_table words bytes ≡ Ok line
    → IsOkAnd (table_of words bytes) (λ groups. groups_read groups ≡ Ok line)

-- without a fault each group has aspects, and each aspect one to eight balises, as many as the first
abbrev pub AspectsHaveBalises : Type 0
AspectsHaveBalises = (entries : List Entry) (groups : List Group) → groups_of_entries entries ≡ Ok groups → AreShaped groups
