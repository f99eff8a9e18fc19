-- Which groups of balises a CSV table stands for. This is `table_of`: `Entries.antt` defines the entries of a table, and
-- `Groups.antt` the groups of entries.
use Rattle.std.specs.Prelude.{ℕ, List, map, Result, Ok, Err}
use Rattle.etcs_table.specs.Entries.{Entry, entries_of}
use Rattle.etcs_table.specs.Groups.{Group, groups_of_entries}
use Rattle.etcs_table.specs.Heading.{Words}
use Rattle.etcs_table.specs.declared.error.TableFault.{TableFault}

-- the groups of these entries, unless there is a fault already
abbrev pub groups_or_fault : Result (List Entry) TableFault → Result (List Group) TableFault
groups_or_fault (Ok entries) = groups_of_entries entries
groups_or_fault (Err fault) = Err fault

-- The groups of a table, or its first fault: of its heading, then of its rows in their order, then of its quotes, and
-- then of its groups in the order of their first rows.
abbrev pub table_of : Words → List ℕ → Result (List Group) TableFault
table_of words bytes = groups_or_fault (entries_of words bytes)

-- the digits of the telegrams of each group and aspect, as a document of `check` has them
abbrev pub texts_of : List Group → List (List (List (List ℕ)))
texts_of groups = map (λ g. map (λ balises. map (λ e. e.digits) balises) g.aspects) groups
