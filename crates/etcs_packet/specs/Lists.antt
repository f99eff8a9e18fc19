-- A list of packets (SUBSET-026, 7.4 and 8.4). The packets stand one after the other, up to the
-- first place where the list ends. They may be any records whose table of fields begins with
-- NID_PACKET.
use Rattle.std.specs.Prelude.{◌≡◌, ◌+◌, ◌==◌, nat_lt, Bool, true, false, if◌then◌else◌, List, [], ◌∷◌, length, take, drop, Option, Some, None}
use Rattle.etcs_bits.specs.declared.layout.fault.Fault.{Fault}
use Rattle.etcs_bits.specs.bits.Number.{num_of_bits}
use Rattle.etcs_bits.specs.layout.Rows.{Row, Place, IsSpelled}
use Rattle.etcs_bits.specs.layout.Fields.{Fields, field, AreRowsOf}
use Rattle.etcs_bits.specs.layout.Fault.{IsFault, InAnyInput}
use Rattle.etcs_packet.specs.declared.stop.Stop.{Stop}
use Rattle.etcs_packet.specs.declared.stop.Stop.TheVariants as stops

-- The fields begin with NID_PACKET, eight bits. A list may end in its place.
abbrev pub IsHeaded : Fields → Type 0
IsHeaded (field x next) = (x.width ≡ 8) × (x.closes ≡ true)
IsHeaded fields = ⊥

-- whether too few bits for NID_PACKET end the list: in a message they do
abbrev pub ends_short : Stop → Bool
ends_short stops.Telegram = false
ends_short stops.Message = true

-- Whether the list ends here. Either eight ones stand here, or fewer than eight bits are left and
-- these end the list.
abbrev pub ends : Stop → Place → Bool
ends stop p =
    if nat_lt (length p.bits) (p.at + 8) then ends_short stop
    else num_of_bits (take 8 (drop p.at p.bits)) == 255

-- The records stand one after the other, and none of them where the list ends. Then the list ends.
abbrev pub Stand : {X : Type 0} → Stop → (X → List Row) → List X → Place → Place → Type 0
Stand stop rows [] p q = (ends stop p ≡ true) × (q ≡ p)
Stand stop rows (x ∷ xs) p q =
    (ends stop p ≡ false) × ((m : Place) × IsSpelled (rows x) p m × Stand stop rows xs m q)

-- One step of a list: no record where the list ends, else the record that stands here.
abbrev pub IsStep : {X : Type 0} → Stop → (X → List Row) → Option X → Place → Place → Type 0
IsStep stop rows None p q = (ends stop p ≡ true) × (q ≡ p)
IsStep stop rows (Some x) p q = (ends stop p ≡ false) × IsSpelled (rows x) p q

-- Whole lists of rows of these fields are spelled one after the other. None of them stands where
-- the list ends.
abbrev pub Follow : Stop → Fields → List (List Row) → Place → Place → Type 0
Follow stop fields [] p q = q ≡ p
Follow stop fields (rows ∷ more) p q =
    (ends stop p ≡ false)
    × ((m : Place) × AreRowsOf fields rows × IsSpelled rows p m × Follow stop fields more m q)

-- The fault of a list. It comes after whole records, where the list does not end. It is the fault
-- of the next record.
pub record IsListFault (stop : Stop) (fields : Fields) (from : Place) (fault : Fault) : Type 0 where
  pub whole : List (List Row)
  pub reached : Place
  pub follow : Follow stop fields whole from reached
  pub goes_on : ends stop reached ≡ false
  pub is_fault : IsFault fields reached fault

-- No input of equal length with these first `end` bits has such a step here.
abbrev pub NoStep : {X : Type 0} → Stop → (X → List Row) → Place → Fault → Type 0
NoStep {X} stop rows = InAnyInput (λ p. (o : Option X) (to : Place) → IsStep stop rows o p to → ⊥)

-- No input of equal length with these first `end` bits has such a list here.
abbrev pub NoneStand : {X : Type 0} → Stop → (X → List Row) → Place → Fault → Type 0
NoneStand {X} stop rows = InAnyInput (λ p. (xs : List X) (to : Place) → Stand stop rows xs p to → ⊥)
