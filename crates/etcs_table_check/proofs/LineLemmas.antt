-- The steps in which the line of a table is found.
use Rattle.std.proofs.Common.{◌≡◌, List, Option, None, Some, Result, Ok, Err, refl, sym}
use Rattle.std.specs.Prelude.{IsOkAnd}
use Rattle.etcs_group.specs.Group.{Aspects}
use Rattle.etcs_table.specs.Entries.{Entry}
use Rattle.etcs_table.specs.Groups.{Group, groups_of_entries}
use Rattle.etcs_table.specs.Table.{groups_or_fault}
use Rattle.etcs_table.specs.declared.error.TableFault.{TableFault}
use Rattle.etcs_table_check.specs.Line.{first_refusal, groups_read}
use Rattle.etcs_table_check.specs.Refusals.{◌then◌, in_table, or_refused}
use Rattle.etcs_table_check.specs.declared.error.TableRefusal.{TableRefusal}

of_groups : (r : Result (List Group) TableFault) (line : List Aspects) → (in_table r then groups_read) ≡ Ok line → IsOkAnd r (λ groups. groups_read groups ≡ Ok line)
of_groups (Ok groups) line is = is
of_groups (Err fault) line is = cc

of_entries : (first : Option TableRefusal) (es : List Entry) (line : List Aspects) → (or_refused first (Ok es) then λ entries. (in_table (groups_of_entries entries) then groups_read)) ≡ Ok line
    → IsOkAnd (groups_of_entries es) (λ groups. groups_read groups ≡ Ok line)
of_entries None es line is = of_groups (groups_of_entries es) line is
of_entries (Some why) es line is = cc

pub line-groups : (r : Result (List Entry) TableFault) (line : List Aspects)
    → ((in_table r then λ entries. or_refused (first_refusal entries) (Ok entries)) then λ entries. (in_table (groups_of_entries entries) then groups_read)) ≡ Ok line
    → IsOkAnd (groups_or_fault r) (λ groups. groups_read groups ≡ Ok line)
line-groups (Ok es) line is = of_entries (first_refusal es) es line is
line-groups (Err fault) line is = cc

-- the line of a table whose rows and groups were read
pub line-of-groups : (t : Result (List Entry) TableRefusal) (rows es : List Entry) (groups gs : List Group) → t ≡ Ok rows → es ≡ rows → groups_of_entries es ≡ Ok groups → gs ≡ groups
    → groups_read gs ≡ (t then λ entries. (in_table (groups_of_entries entries) then groups_read))
line-of-groups t rows es groups gs is of_rows of_groups of_gs = rw (is, sym of_rows, of_groups, of_gs) refl
