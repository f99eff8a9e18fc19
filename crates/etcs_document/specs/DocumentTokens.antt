-- The document of a railway line read from the tokens of its text, and checked group by group and message by
-- message, without building a value or a line. A text that this reader cannot decide is read by the reader of
-- values.
use Rattle.std.specs.Prelude.{◌≡◌, ℕ, true, List, [], ◌∷◌, codes, length, Option, Some, Ok}
use Rattle.json.specs.Token.{Token}
use Rattle.serde_json.specs.Data.{Data, array, no_items}
use Rattle.etcs_check.specs.LineChecker.{CheckerState, HasChecked}
use Rattle.etcs_document.specs.Document.{as_values, aspect_telegrams, balise_telegram, document_group, document_line, document_message, has_count, only_values}
use Rattle.etcs_schema.specs.Entries.{Entry, entries_object}
use Rattle.etcs_document.specs.Tokens.{HasMembers, first_value, prepend_items}
use Rattle.etcs_radio.specs.declared.message.Message.{Message}
use Rattle.etcs_telegram.specs.Record.{Telegram}
use Rattle.etcs_group.specs.Group.{Telegrams, Aspects}

-- ---- what a value is, independent of its index

-- the text of this telegram
abbrev pub IsTelegram : Data → Telegram → Type 0
IsTelegram d t = (g : ℕ) (a : Option ℕ) (b : ℕ) → balise_telegram g a b d ≡ Ok t

-- the text of this message
abbrev pub IsMessage : Data → Message → Type 0
IsMessage d m = (i : ℕ) → document_message i d ≡ Ok m

-- the values of these balises
abbrev pub AreBalises : List Data → Telegrams → Type 0
AreBalises ds group = (g : ℕ) (a first : Option ℕ) → has_count first (length group) ≡ true
    → aspect_telegrams g a first ds ≡ Ok group

-- the list of these balises
abbrev pub IsBalises : Data → Telegrams → Type 0
IsBalises d group = (ds : List Data) × (as_values d ≡ Ok ds) × AreBalises ds group

-- the object with these balises
abbrev pub IsAspect : Data → Telegrams → Type 0
IsAspect d group = (ds : List Data) × (only_values (codes "balises") d ≡ Ok ds) × AreBalises ds group

-- the group with these aspects
abbrev pub IsGroup : Data → Aspects → Type 0
IsGroup d aspects = (g : ℕ) → document_group g d ≡ Ok aspects

-- ---- the first values of tokens

-- the first value of the tokens is the value of x
pub record IsFirst {X : Type 0} (Is : Data → X → Type 0) (depth : ℕ) (old : List Token) (x : X)
    (new : List Token) : Type 0 where
  pub found : Data
  pub stands : first_value depth old ≡ Some (found, new)
  pub is : Is found x

-- each value is the value of its x
abbrev pub AreEach : {X : Type 0} → (Data → X → Type 0) → List Data → List X → Type 0
AreEach Is [] [] = Unit {0}
AreEach Is [] (x ∷ xs) = ⊥
AreEach Is (d ∷ ds) [] = ⊥
AreEach Is (d ∷ ds) (x ∷ xs) = Is d x × AreEach Is ds xs

-- the list of these items
abbrev pub IsList : {X : Type 0} → (Data → X → Type 0) → Data → List X → Type 0
IsList Is d xs = (ds : List Data) × (d ≡ array (prepend_items ds no_items)) × AreEach Is ds xs

-- the one member of a group with these aspects
pub record HasGroup (depth : ℕ) (old : List Token) (aspects : Aspects) (new : List Token) : Type 0 where
  pub name : List ℕ
  pub found : Data
  pub stand : HasMembers depth ((name, Some found) ∷ []) old new
  pub is : IsGroup (entries_object ((name, Some found) ∷ [])) aspects

-- ---- what was passed to a checker

-- The value is the document of a line, and `state` is the state of a checker that has taken its groups and
-- messages.
pub record IsChecked (d : Data) (state : CheckerState) : Type 0 where
  pub groups : List Aspects
  pub messages : List Message
  pub line : document_line d ≡ Ok (groups, messages)
  pub checked : HasChecked state groups messages

-- the first members are the members of such a document
pub record HasLine (depth : ℕ) (old : List Token) (state : CheckerState) (new : List Token) : Type 0 where
  pub entries : List Entry
  pub stand : HasMembers depth entries old new
  pub is : IsChecked (entries_object entries) state
