-- The railway line of a table: the telegrams of its groups and aspects. Everything in this file is a part of
-- `line_of_table`, at the end: the line, or why the table is refused. The telegrams are read in the order of the rows
-- before there are groups, so the first row whose digits are no telegram is the one that is named.
use Rattle.std.specs.Prelude.{ℕ, List, [], ◌∷◌, Option, None, Some, Result, Ok, Err, IsOkAnd}
use Rattle.etcs_check.specs.LineChecker.{CheckerState, HasChecked}
use Rattle.etcs_group.specs.Group.{Aspects, Telegrams}
use Rattle.etcs_table.specs.Entries.{Entry, entries_of}
use Rattle.etcs_table.specs.Groups.{Group, groups_of_entries}
use Rattle.etcs_table.specs.Heading.{Words}
use Rattle.etcs_table_check.specs.Refusals.{◌then◌, in_table, or_else, or_refused}
use Rattle.etcs_table_check.specs.declared.error.TableRefusal.{TableRefusal}
use Rattle.etcs_table_check.specs.declared.error.TableRefusal.TheVariants as refusals
use Rattle.etcs_telegram.specs.Record.{Telegram}
use Rattle.etcs_telegram.specs.TextMeaning.{telegram_of_text}
use Rattle.etcs_telegram.specs.declared.error.TextError.{TextError}

-- ---- telegrams

-- why a row is refused whose digits are no telegram
abbrev pub in_row : ℕ → Result Telegram TextError → Result Telegram TableRefusal
in_row row (Ok t) = Ok t
in_row row (Err why) = Err (refusals.Telegram row why)

-- the telegram that a row's digits are
unfoldable pub telegram_of : Entry → Result Telegram TableRefusal
telegram_of e = in_row e.row (telegram_of_text e.digits)

abbrev pub refusal_of : Result Telegram TableRefusal → Option TableRefusal
refusal_of (Ok t) = None
refusal_of (Err why) = Some why

-- the first row whose digits are no telegram
unfoldable pub first_refusal : List Entry → Option TableRefusal
first_refusal [] = None
first_refusal (e ∷ entries) = or_else (refusal_of (telegram_of e)) (first_refusal entries)

-- the entries of a table, each of which has a telegram
abbrev pub telegram_entries : Words → List ℕ → Result (List Entry) TableRefusal
telegram_entries words bytes =
    in_table (entries_of words bytes) then λ entries. or_refused (first_refusal entries) (Ok entries)

-- ---- groups

abbrev pub with_first : {A : Type 0} → A → Result (List A) TableRefusal → Result (List A) TableRefusal
with_first x r = r then λ xs. Ok (x ∷ xs)

-- what each is read as, in their order
unfoldable pub read_each : {A B : Type 0} → (A → Result B TableRefusal) → List A → Result (List B) TableRefusal
read_each read [] = Ok []
read_each read (x ∷ xs) = read x then λ y. with_first y (read_each read xs)

-- the telegrams of an aspect
abbrev pub aspect_telegrams : List Entry → Result Telegrams TableRefusal
aspect_telegrams balises = read_each telegram_of balises

-- the aspects of a group, each with the telegrams of its balises
abbrev pub group_aspects : Group → Result Aspects TableRefusal
group_aspects group = read_each aspect_telegrams group.aspects

-- the telegrams of groups
abbrev pub groups_read : List Group → Result (List Aspects) TableRefusal
groups_read groups = read_each group_aspects groups

-- a checker has taken the groups that were read, and nothing else
abbrev pub IsCheckedAs : CheckerState → Result (List Aspects) TableRefusal → Type 0
IsCheckedAs checker meaning = IsOkAnd meaning (λ groups. HasChecked checker groups [])

-- ---- the table

-- The line of a table, or why the table is refused: the first fault of its heading and rows, then its first row whose
-- digits are no telegram, and then the first fault of its groups.
abbrev pub line_of_table : Words → List ℕ → Result (List Aspects) TableRefusal
line_of_table words bytes =
    telegram_entries words bytes then λ entries. (in_table (groups_of_entries entries) then groups_read)
