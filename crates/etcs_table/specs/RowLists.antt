-- The lists of a group's rows by their aspects, and of a table's rows by their groups.
use Rattle.std.specs.Prelude.{ℕ, Bool, false, List, []}
use Rattle.etcs_table.specs.Entries.{Entry}
use Rattle.etcs_table.specs.Groups.{is_every}
use Rattle.etcs_table.specs.Lists.{AreLists}

abbrev pub aspect_of : Entry → List ℕ
aspect_of e = e.aspect

abbrev pub group_name : Entry → List ℕ
group_name e = e.group

-- no row is of every group
abbrev pub is_of_none : Entry → Bool
is_of_none e = false

-- the names of aspects, the rows of every aspect, and the rows of each
abbrev pub AreAspectLists : List (List ℕ) → List Entry → List (List Entry) → List Entry → Type 0
AreAspectLists names shared lists entries = AreLists aspect_of is_every names shared lists entries

-- the names of groups, and the rows of each
abbrev pub AreGroupLists : List (List ℕ) → List (List Entry) → List Entry → Type 0
AreGroupLists names lists entries = AreLists group_name is_of_none names [] lists entries
