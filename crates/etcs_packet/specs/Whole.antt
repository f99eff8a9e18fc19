-- A head and the list of packets after it. In a telegram the head is the header (SUBSET-026, 8.4.2). In
-- a radio message the head is the message's own fields (SUBSET-026, 8.6 and 8.7).
use Rattle.std.specs.Prelude.{◌≡◌, ◌⊎◌, ◌+◌, ◌≤◌, List, Bool, true, false, ◌++◌, length}
use Rattle.std.specs.List.{flat_map}
use Rattle.etcs_bits.specs.declared.layout.fault.Fault.{Fault}
use Rattle.etcs_bits.specs.layout.Rows.{Row, Place, AreAllowed, join, IsSpelled}
use Rattle.etcs_bits.specs.layout.Fields.{Fields, AreRowsOf}
use Rattle.etcs_bits.specs.layout.Fault.{IsFault, InAnyInput}
use Rattle.etcs_packet.specs.declared.stop.Stop.{Stop}
use Rattle.etcs_packet.specs.Lists.{ends, Stand, IsListFault}

-- the place at which bits begin
abbrev pub start : List Bool → Place
start bits = record { bits = bits; at = 0 }

-- The head stands at `from`. The records stand after it, up to `to`, where their list ends.
pub record HeadAndListStand {H X : Type 0} (stop : Stop) (head : H → List Row) (rows : X → List Row)
    (h : H) (xs : List X) (from to : Place) : Type 0 where
  pub middle : Place
  pub first : IsSpelled (head h) from middle
  pub items : Stand stop rows xs middle to

-- A head stands here, and the list after it does not end at once: a record is due. Its NID_PACKET
-- has room in the bits.
pub record IsFollowed {H : Type 0} (stop : Stop) (head : H → List Row) (from : Place) : Type 0 where
  pub h : H
  pub middle : Place
  pub first : IsSpelled (head h) from middle
  pub goes_on : ends stop middle ≡ false
  pub room : middle.at + 8 ≤ length middle.bits

-- Bits begin with this head and these records. What comes after the end of the list carries no
-- information.
pub record BeginsWith {H X : Type 0} (stop : Stop) (head : H → List Row) (rows : X → List Row)
    (h : H) (xs : List X) (bits : List Bool) : Type 0 where
  pub end : Place
  pub whole : HeadAndListStand stop head rows h xs (start bits) end

-- The bits are the spelling of this head, the spellings of these records, and a rest. A list ends
-- where the rest begins.
pub record AreSpelled {H X : Type 0} (stop : Stop) (head : H → List Row) (rows : X → List Row)
    (h : H) (xs : List X) (bits : List Bool) : Type 0 where
  pub rest : List Bool
  pub first : AreAllowed (head h)
  pub items : AreAllowed (flat_map rows xs)
  pub over : ends stop (start rest) ≡ true
  pub are : bits ≡ join (head h) ++ (join (flat_map rows xs) ++ rest)

-- the fault of the list after a whole head
pub record IsLaterFault (stop : Stop) (head item : Fields) (from : Place)
    (fault : Fault) : Type 0 where
  pub rows : List Row
  pub middle : Place
  pub whole : AreRowsOf head rows
  pub first : IsSpelled rows from middle
  pub is_fault : IsListFault stop item middle fault

-- The fault of a head and its list: the fault of the head or, where a head stands, the fault of the
-- list.
abbrev pub IsWholeFault : Stop → Fields → Fields → Place → Fault → Type 0
IsWholeFault stop head item from fault =
    IsFault head from fault ⊎ IsLaterFault stop head item from fault

-- No input of equal length with these first `end` bits has a head and its list here.
abbrev pub NoHeadAndListStands : {H X : Type 0} → Stop
    → (H → List Row) → (X → List Row) → Place → Fault → Type 0
NoHeadAndListStands {H} {X} stop head rows =
    InAnyInput (λ p. (h : H) (xs : List X) (to : Place) → HeadAndListStand stop head rows h xs p to → ⊥)
