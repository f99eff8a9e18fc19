-- The heads of radio messages: of message 3, a movement authority, and of message 136, a position
-- report of a train (SUBSET-026, 8.4.4, 8.6 and 8.7).
use Rattle.std.specs.Prelude.{ℕ, ◌⊎◌, false, Bool, refl}
use Rattle.etcs_bits.specs.declared.layout.fault.FaultKind.TheVariants.{Length, MessageKind}
use Rattle.etcs_bits.specs.declared.variables.identity.Identity.{Identity}
use Rattle.etcs_bits.specs.layout.Rows.{Variable}
use Rattle.etcs_bits.specs.layout.Choice.{Choice}
use Rattle.etcs_bits.specs.layout.Format.{Format, number, flag, fixed, ◌then◌, ◌before◌, last, either, chosen}
use Rattle.etcs_radio.specs.Lrbg.{nid_lrbg}

-- L_MESSAGE, 10 bits: the message's count of bytes, here n; any other number has the fault Length
abbrev pub l_message : ℕ → Format (Unit {0})
l_message n = fixed 10 n Length

-- what follows L_MESSAGE
abbrev pub after_length : {X : Type 0} → ℕ → Format X → Format X
after_length n rest = l_message n before rest

-- T_TRAIN, 32 bits: the time of the train's clock, in units of 10 ms
abbrev pub t_train : Format ℕ
t_train = number 32

-- M_ACK, 1 bit: 1 asks the train to acknowledge the message
abbrev pub m_ack : Format Bool
m_ack = flag

-- NID_ENGINE, 24 bits: the number of the equipment on board
abbrev pub nid_engine : Format ℕ
nid_engine = number 24

-- in message 3: the time, whether to acknowledge, the group
abbrev pub MovementHead : Type 0
MovementHead = ℕ × (Bool × Identity)

abbrev pub movement_head : Format MovementHead
movement_head = t_train then m_ack then nid_lrbg

-- in message 136: the time, the equipment
abbrev pub PositionHead : Type 0
PositionHead = ℕ × ℕ

abbrev pub position_head : Format PositionHead
position_head = t_train then nid_engine

-- NID_MESSAGE, 8 bits: 3 or 136, and what follows each in a message of n bytes
abbrev pub Head : Type 0
Head = MovementHead ⊎ PositionHead

abbrev pub head_numbered : ℕ → Choice Head
head_numbered n = either 3 (after_length n movement_head) (last 136 (after_length n position_head)) refl

-- any other number has the fault MessageKind
abbrev pub nid_message : Variable
nid_message = record { width = 8; allows = (head_numbered 0).allows; refusal = MessageKind; closes = false }

-- the head of a message of n bytes
abbrev pub head : ℕ → Format Head
head n = chosen nid_message (head_numbered n) (λ _. refl)
