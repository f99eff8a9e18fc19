-- A checker takes the groups and the messages of a line one by one, and does not keep them. It keeps their
-- findings, the count of each kind, and the numbers of the groups' identities.
use Rattle.std.specs.Prelude.{◌≡◌, ℕ, Bool, List, [], ◌++◌, length}
use Rattle.std.specs.Global.{Vec}
use Rattle.etcs_radio.specs.declared.message.Message.{Message}
use Rattle.etcs_group.specs.Group.{Aspects}
use Rattle.etcs_check.specs.Identities.{HaveIdentities, has_identity_number, is_kept}
use Rattle.etcs_check.specs.Laws.{AreControlled}
use Rattle.etcs_check.specs.Line.{findings}
use Rattle.etcs_check.specs.declared.finding.Finding.{Finding}

-- what a checker keeps
pub record CheckerState : Type 0 where
  pub about_groups : List Finding
  pub about_messages : List Finding
  pub groups : ℕ
  pub messages : ℕ
  pub identities : List (Vec ℕ)

-- only the numbers of these groups' identities are kept
abbrev pub HasKept : (ℕ → Bool) → List Aspects → Type 0
HasKept kept groups = (n : ℕ) → kept n ≡ has_identity_number groups n

-- The state of a checker that has taken these groups and messages, each kind in this order. Not injective: as
-- many groups and messages with equal findings and identities lead to the same state.
pub record HasChecked (state : CheckerState) (groups : List Aspects) (messages : List Message) : Type 0 where
  pub about_groups : state.about_groups ≡ findings groups []
  pub about_messages : state.about_messages ≡ findings [] messages
  pub groups_counted : state.groups ≡ length groups
  pub messages_counted : state.messages ≡ length messages
  pub seen : HasKept (is_kept state.identities) groups
  pub numbered : HaveIdentities groups
  pub controlled : AreControlled groups

-- A checker in state `old` takes these groups as well, whatever it had taken, and is then in state `new`.
abbrev pub TakesGroups : CheckerState → List Aspects → CheckerState → Type 0
TakesGroups old groups new = (gs : List Aspects) (ms : List Message)
    → HasChecked old gs ms → HasChecked new (gs ++ groups) ms

-- A checker in state `old` takes these messages as well, whatever it had taken, and is then in state `new`.
abbrev pub TakesMessages : CheckerState → List Message → CheckerState → Type 0
TakesMessages old messages new = (gs : List Aspects) (ms : List Message)
    → HasChecked old gs ms → HasChecked new gs (ms ++ messages)

-- A checker in state `old` takes nothing, whatever it had taken, and is then in state `new`.
abbrev pub HasStill : CheckerState → CheckerState → Type 0
HasStill old new = (gs : List Aspects) (ms : List Message) → HasChecked old gs ms → HasChecked new gs ms
