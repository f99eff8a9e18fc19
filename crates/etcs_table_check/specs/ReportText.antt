-- The report on a table: whether its line has findings, and then each finding on a line of its own, with its rows. The
-- words are those of the report on a document, with rows in the place of groups and balises.
use Rattle.std.specs.Prelude.{◌++◌, ℕ, List, [], ◌∷◌, codes, decimal, length, flat_map}
use Rattle.etcs_document.specs.ReportText.{direction_words, part_words, rule_words}
use Rattle.etcs_table_check.specs.FindingRows.{RowFinding}
use Rattle.etcs_table_check.specs.Verdict.{TableVerdict}

-- ---- rows

abbrev pub row_words : ℕ → List ℕ
row_words row = codes ", " ++ decimal row

-- one row, or several, separated by commas
abbrev pub rows_words : List ℕ → List ℕ
rows_words [] = []
rows_words (row ∷ []) = codes " row " ++ decimal row
rows_words (row ∷ other ∷ rows) = codes " rows " ++ (decimal row ++ flat_map row_words (other ∷ rows))

-- ---- findings

-- its rows, its aspect, its packet and its running direction
unfoldable pub place_words : RowFinding → List ℕ
place_words f =
    rows_words f.rows
    ++ (part_words (codes "aspect") f.finding.aspect ++ (part_words (codes "packet") f.finding.packet
    ++ direction_words f.finding.dir))

-- the line for a finding: its number, its location, and its name
unfoldable pub finding_words : RowFinding → List ℕ
finding_words f =
    (rule_words f.finding.rule).0 ++ (place_words f ++ (codes ": " ++ ((rule_words f.finding.rule).1 ++ codes "\n")))

abbrev pub findings_words : List RowFinding → List ℕ
findings_words found = flat_map finding_words found

-- The report on a table with these counts of groups and telegrams: yes if there are no findings, otherwise no and each
-- finding.
unfoldable pub report_words : ℕ → ℕ → List RowFinding → List ℕ
report_words groups telegrams [] =
    codes "yes: groups " ++ (decimal groups ++ (codes ", telegrams " ++ (decimal telegrams ++ codes "\n")))
report_words groups telegrams (f ∷ found) =
    codes "no: findings " ++ (decimal (length (f ∷ found)) ++ (codes "\n" ++ findings_words (f ∷ found)))

abbrev pub verdict_words : TableVerdict → List ℕ
verdict_words v = report_words v.groups v.telegrams v.findings
