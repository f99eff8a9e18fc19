-- The rows of a finding: those of its balise, or the first one of its group.
use Rattle.std.specs.Prelude.{ℕ, ◌==◌, fold, List, [], ◌∷◌, ◌++◌, if◌then◌else◌, map, min, Option, None, Some, slice_get}
use Rattle.std.specs.List.{list_any}
use Rattle.std.specs.Option.{option_map_or}
use Rattle.etcs_check.specs.declared.finding.Finding.{Finding}
use Rattle.etcs_check.specs.declared.finding.Site.{Site}
use Rattle.etcs_check.specs.declared.finding.Site.TheVariants as sites
use Rattle.etcs_table.specs.Entries.{Entry}
use Rattle.etcs_table.specs.Groups.{Group}

-- ---- the rows of a balise: a row of every aspect is one row

-- rows, with one more at the end if it is new
abbrev pub with_new : List ℕ → ℕ → List ℕ
with_new rows row = if list_any (λ other. other == row) rows then rows else rows ++ row ∷ []

-- rows, with that of the balise at this place of an aspect
abbrev pub with_balise : ℕ → List ℕ → List Entry → List ℕ
with_balise place rows balises = option_map_or (λ e. with_new rows e.row) (slice_get balises place) rows

abbrev pub balise_rows : ℕ → List (List Entry) → List ℕ
balise_rows place aspects = fold (with_balise place) [] aspects

-- ---- the first row of aspects

-- the less number, if there is one already
abbrev pub earlier : Option ℕ → Entry → Option ℕ
earlier None e = Some e.row
earlier (Some row) e = Some (min row e.row)

abbrev pub earlier_in : Option ℕ → List Entry → Option ℕ
earlier_in row balises = fold earlier row balises

abbrev pub first_row : List (List Entry) → Option ℕ
first_row aspects = fold earlier_in None aspects

abbrev pub as_list : Option ℕ → List ℕ
as_list None = []
as_list (Some row) = row ∷ []

-- ---- findings

-- the rows of a balise in all aspects, or the first row of the aspects
abbrev pub group_rows : Option ℕ → List (List Entry) → List ℕ
group_rows (Some place) aspects = balise_rows place aspects
group_rows None aspects = as_list (first_row aspects)

-- the row of a balise in an aspect, or the first row of the aspect
abbrev pub aspect_rows : Option ℕ → List Entry → List ℕ
aspect_rows (Some place) balises = with_balise place [] balises
aspect_rows None balises = as_list (earlier_in None balises)

-- the rows in a group with these aspects, or in one of them
abbrev pub rows_in : Option ℕ → Option ℕ → List (List Entry) → List ℕ
rows_in (Some aspect) balise aspects = option_map_or (aspect_rows balise) (slice_get aspects aspect) []
rows_in None balise aspects = group_rows balise aspects

-- the group of a finding; a table has no messages
abbrev pub group_at : List Group → Site → Option Group
group_at groups (sites.Group g) = slice_get groups g
group_at groups (sites.Message m) = None

-- The rows of a finding: those of its balise, in its aspect if it names one; without a balise the first row of its aspect
-- or group.
abbrev pub rows_of : List Group → Finding → List ℕ
rows_of groups f = option_map_or (λ group. rows_in f.aspect f.balise group.aspects) (group_at groups f.site) []

-- a finding with its rows
pub record RowFinding : Type 0 where
  pub finding : Finding
  pub rows : List ℕ

abbrev pub with_rows : List Group → Finding → RowFinding
with_rows groups f = record { finding = f; rows = rows_of groups f }

-- the findings, each with its rows
abbrev pub all_with_rows : List Group → List Finding → List RowFinding
all_with_rows groups found = map (with_rows groups) found
