-- The document of a railway line: which groups, aspects and radio messages a JSON text gives. The form is
-- this project's own; the telegrams and messages in it are texts (SUBSET-026, 3.4.1, 8.4.2 and 8.4.4).
use Rattle.std.specs.Prelude.{◌≡◌, ℕ, ◌<◌, ◌≤◌, ◌⊎◌, IsTrue, codes, List, [], ◌∷◌, length, Some, IsSome, IsSomeAnd}
use Rattle.std.specs.List.{list_any}
use Rattle.std.specs.Str.{is_utf8, bytes_eq}
use Rattle.serde_json.specs.Data.{Data, Items, no_items, item, array}
use Rattle.serde_json.specs.Find.{as_object, as_str, get}
use Rattle.serde_json.specs.Read.{read}
use Rattle.etcs_group.specs.Group.{Telegrams, Aspects}
use Rattle.etcs_group.specs.Places.{At}
use Rattle.etcs_radio.specs.declared.message.Message.{Message}
use Rattle.etcs_edition.specs.Telegram.{IsTelegramText}
use Rattle.etcs_edition.specs.Message.{IsMessageText}

-- ---- parts of JSON

-- the array has as many values as the list, and the relation holds of the value and the element at each place
abbrev pub Each : {A : Type 0} → (Data → A → Type 0) → Items → List A → Type 0
Each Is no_items [] = Unit {0}
Each Is (item d ds) (x ∷ xs) = Is d x × Each Is ds xs
Each Is ds xs = ⊥

-- an object with no other keys than these
abbrev pub OnlyKeys : List (List ℕ) → Data → Type 0
OnlyKeys keys d =
    IsSome (as_object d) × ((key : List ℕ) → IsSome (get key d) → IsTrue (list_any (λ k. bytes_eq key k) keys))

-- ---- parts of a line

-- An aspect: an object with the one key `balises`, a list of one to eight texts of telegrams, in order.
pub record IsAspectObject (d : Data) (group : Telegrams) : Type 0 where
  pub keys : OnlyKeys (codes "balises" ∷ []) d
  pub texts : Items
  pub balises : get (codes "balises") d ≡ Some (array texts)
  pub some : 0 < length group
  pub few : length group ≤ 8
  pub are : Each (λ v t. IsSomeAnd (as_str v) (IsTelegramText t)) texts group

-- A controlled group: an object with the one key `aspects`, a list of one or more aspects with as many balises each.
pub record IsControlledObject (d : Data) (aspects : Aspects) : Type 0 where
  pub keys : OnlyKeys (codes "aspects" ∷ []) d
  pub objects : Items
  pub list : get (codes "aspects") d ≡ Some (array objects)
  pub are : Each IsAspectObject objects aspects
  pub some : 0 < length aspects
  pub counts : (a b : ℕ) (g h : Telegrams) → At aspects a g → At aspects b h → length g ≡ length h

-- A group is a controlled group, or an aspect, which is then its only one.
abbrev pub IsGroupObject : Data → Aspects → Type 0
IsGroupObject d aspects =
    IsControlledObject d aspects ⊎ ((group : Telegrams) × (aspects ≡ group ∷ []) × IsAspectObject d group)

-- A line: an object with the keys `groups` and `messages`, a list of groups and a list of texts of messages.
pub record IsLineObject (d : Data) (groups : List Aspects) (messages : List Message) : Type 0 where
  pub keys : OnlyKeys (codes "groups" ∷ codes "messages" ∷ []) d
  pub group_objects : Items
  pub message_texts : Items
  pub first : get (codes "groups") d ≡ Some (array group_objects)
  pub second : get (codes "messages") d ≡ Some (array message_texts)
  pub are_groups : Each IsGroupObject group_objects groups
  pub are_messages : Each (λ v m. IsSomeAnd (as_str v) (IsMessageText m)) message_texts messages

-- The bytes are the JSON text of a line.
pub record IsLineText (bytes : List ℕ) (groups : List Aspects) (messages : List Message) : Type 0 where
  pub document : Data
  pub utf8 : IsTrue (is_utf8 bytes)
  pub json : read bytes ≡ Some document
  pub line : IsLineObject document groups messages
