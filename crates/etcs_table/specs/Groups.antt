-- The groups of balises that the entries of a table stand for. Everything in this file is a part of `groups_of_entries`,
-- at the end: the groups, or the first fault of one.
use Rattle.std.specs.Prelude.{ℕ, ◌==◌, ◌&&◌, ◌||◌, not, nat_lt, fold, find, insert, Bool, false, List, [], ◌∷◌, ◌++◌, filter, if◌then◌else◌, is_some, length, map, slice_get, slice_index_or, codes, Option, None, Some, Result, Ok}
use Rattle.std.specs.List.{list_any, position_or_len}
use Rattle.etcs_table.specs.Entries.{Entry}
use Rattle.etcs_table.specs.Faults.{or_else, or_fault}
use Rattle.etcs_table.specs.Text.{is_empty, same_text}
use Rattle.etcs_table.specs.declared.error.TableFault.{TableFault}
use Rattle.etcs_table.specs.declared.error.TableFault.TheVariants.{Moved, Ninth, Repeated, Uneven, Unnamed, Unnumbered}

-- ---- aspects

-- a fault of this entry, if there is one
abbrev pub fault_at : (ℕ → TableFault) → Option Entry → Option TableFault
fault_at fault (Some e) = Some (fault e.row)
fault_at fault None = None

-- names in the order of their first appearance
unfoldable pub first_names : List (List ℕ) → List (List ℕ)
first_names [] = []
first_names (name ∷ names) = name ∷ filter (λ other. not (same_text other name)) (first_names names)

-- a telegram that its balise sends in every aspect
abbrev pub is_every : Entry → Bool
is_every e = same_text e.aspect (codes "*")

-- a telegram that its balise sends in the aspect that its row names
abbrev pub has_aspect : Entry → Bool
has_aspect e = not (is_empty e.aspect) && not (is_every e)

abbrev pub of_group : List Entry → List ℕ → List Entry
of_group entries name = filter (λ e. same_text e.group name) entries

-- names, or one empty name if there are none
abbrev pub one_at_least : List (List ℕ) → List (List ℕ)
one_at_least [] = [] ∷ []
one_at_least (name ∷ names) = name ∷ names

-- the aspects of a group: those that rows name, or one without a name
abbrev pub aspect_names : List Entry → List (List ℕ)
aspect_names entries = one_at_least (first_names (map (λ e. e.aspect) (filter (λ e. not (is_every e)) entries)))

-- the rows of an aspect, with those of every aspect
abbrev pub of_aspect : List Entry → List ℕ → List Entry
of_aspect entries name = filter (λ e. same_text e.aspect name || is_every e) entries

-- the aspects of a group, each with its rows
abbrev pub rows_of_aspects : List Entry → List (List Entry)
rows_of_aspects entries = map (of_aspect entries) (aspect_names entries)

abbrev pub is_numbered : Entry → Bool
is_numbered e = is_some e.number

-- a number is less than another
abbrev pub precedes : Option ℕ → Option ℕ → Bool
precedes (Some m) (Some n) = nat_lt m n
precedes (Some m) None = false
precedes None number = false

abbrev pub same_number : Option ℕ → Option ℕ → Bool
same_number (Some m) (Some n) = m == n
same_number (Some m) None = false
same_number None number = false

-- entries in order, with one more: in front of the first with a greater number, or at the end
abbrev pub with_entry : List Entry → Entry → List Entry
with_entry sorted e = insert sorted (position_or_len (λ f. precedes e.number f.number) sorted) e

-- entries by the numbers of their balises, if they have numbers, else by their rows
abbrev pub in_order : List Entry → List Entry
in_order entries = fold with_entry [] entries

-- the aspects of a group, each with its balises in order
abbrev pub aspects_of : List Entry → List (List Entry)
aspects_of entries = map in_order (rows_of_aspects entries)

-- the first entry with the number of an earlier one
unfoldable pub first_repeated : List Entry → List Entry → Option TableFault
first_repeated before [] = None
first_repeated before (e ∷ rest) =
    if list_any (λ f. same_number e.number f.number) before then Some (Repeated e.row)
    else first_repeated (before ++ e ∷ []) rest

-- the ninth balise of an aspect
abbrev pub ninth_of : List Entry → Option TableFault
ninth_of entries = fault_at Ninth (slice_get entries 8)

-- the place of an entry among the balises of an aspect
abbrev pub place_in : Entry → List Entry → ℕ
place_in e balises = position_or_len (λ f. f.row == e.row) balises

-- what is wrong with an entry in its group, of which some have aspects of their own, and some numbers
abbrev pub entry_fault : Bool → Bool → Entry → Option TableFault
entry_fault aspects numbers e =
    if aspects && is_empty e.aspect then Some (Unnamed e.row)
    else (if numbers && not (is_numbered e) then Some (Unnumbered e.row) else None)

-- what is wrong with an aspect by itself
abbrev pub aspect_fault : List Entry → Option TableFault
aspect_fault entries = or_else (first_repeated [] entries) (ninth_of entries)

-- the first row of an aspect that is not of every aspect, if there are more or fewer rows than this
abbrev pub uneven_fault : ℕ → List Entry → Option TableFault
uneven_fault count entries =
    if length entries == count then None else fault_at Uneven (find (λ e. not (is_every e)) entries)

-- an entry of every aspect has one place in the first aspect, and another in some aspect
abbrev pub is_moved : List (List Entry) → Entry → Bool
is_moved aspects e =
    list_any (λ balises. not (place_in e balises == place_in e (slice_index_or aspects 0 []))) aspects

abbrev pub place_fault : List (List Entry) → Entry → Option TableFault
place_fault aspects e = if is_every e && is_moved aspects e then Some (Moved e.row) else None

-- the fault of the first that has one
unfoldable pub first_of : {X : Type 0} → (X → Option TableFault) → List X → Option TableFault
first_of fault [] = None
first_of fault (x ∷ xs) = or_else (fault x) (first_of fault xs)

-- the first fault of a group
abbrev pub group_fault : List Entry → Option TableFault
group_fault entries =
    let aspects = rows_of_aspects entries in
    or_else (first_of (entry_fault (list_any has_aspect entries) (list_any is_numbered entries)) entries)
    (or_else (first_of aspect_fault aspects)
    (or_else (first_of (uneven_fault (length (slice_index_or aspects 0 []))) aspects)
    (first_of (place_fault (aspects_of entries)) entries)))

-- ---- groups

-- a group: its name, and for each aspect its balises in order
pub record Group : Type 0 where
  pub name : List ℕ
  pub aspects : List (List Entry)

abbrev pub group_names : List Entry → List (List ℕ)
group_names entries = first_names (map (λ e. e.group) entries)

abbrev pub group_of : List Entry → List ℕ → Group
group_of entries name = record { name = name; aspects = aspects_of (of_group entries name) }

-- The groups of these entries in the order of their first rows, or the first fault of the first group that has one.
abbrev pub groups_of_entries : List Entry → Result (List Group) TableFault
groups_of_entries entries =
    or_fault (first_of group_fault (map (of_group entries) (group_names entries)))
    (Ok (map (group_of entries) (group_names entries)))
