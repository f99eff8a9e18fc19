-- The first fault of bits that are no telegram, and of bytes that are no radio message (SUBSET-026, 7.4, 7.5, 8.4.2
-- and 8.4.4). The tables are gone through variable by variable. The fault is that of the first variable that is cut
-- off or has a number that is not allowed, or of the first L_PACKET that is not the count, which shows at the end of
-- its packet.
use Rattle.std.specs.Prelude.{◌≡◌, ℕ, ◌+◌, ◌-◌, ◌==◌, ◌||◌, ◌⊎◌, nat_lt, Bool, true, false, if◌then◌else◌, List, [], ◌∷◌, length, take, drop, Result, Ok, Err}
use Rattle.std.specs.List.{list_any}
use Rattle.etcs_bits.specs.declared.layout.fault.Fault.{Fault}
use Rattle.etcs_bits.specs.declared.layout.fault.FaultKind.{FaultKind}
use Rattle.etcs_bits.specs.declared.layout.fault.FaultKind.TheVariants as kinds
use Rattle.etcs_bits.specs.bits.Number.{num_of_bits}
use Rattle.etcs_bits.specs.layout.Rows.{Place}
use Rattle.etcs_bits.specs.layout.Fault.{short, lack, refused}
use Rattle.etcs_bits.specs.layout.Fields.{Fields, nothing, field, ◌▹◌, sized}
use Rattle.etcs_bits.specs.layout.Reading.{◌>>=◌, forward}
use Rattle.etcs_packet.specs.declared.stop.Stop.{Stop}
use Rattle.etcs_packet.specs.declared.stop.Stop.TheVariants as stops
use Rattle.etcs_packet.specs.Lists.{ends}
use Rattle.etcs_packet.specs.Whole.{start}
use Rattle.etcs_telegram.specs.Record.{Telegram}
use Rattle.etcs_radio.specs.declared.message.Message.{Message}
use Rattle.etcs_edition.specs.Wire.{bits_of_bytes}
use Rattle.etcs_edition.specs.Telegram.{IsTelegram}
use Rattle.etcs_edition.specs.Message.{IsMessage}
use Rattle.etcs_edition.specs.Tables.{header_table, track_table, train_table, message_table}

-- ---- the variables of a table

-- the number of the next w bits
abbrev pub number_here : ℕ → Place → ℕ
number_here w p = num_of_bits (take w (drop p.at p.bits))

-- the place after the variables of a table, or their first fault
abbrev pub after : Fields → Place → Result Place Fault
after nothing p = Ok p
after (field x next) p =
    if nat_lt (length p.bits) (p.at + x.width) then Err (lack x.closes p)
    else (if x.allows (number_here x.width p) then after (next (number_here x.width p)) (forward p x.width)
    else Err (refused x p))
after (a ▹ b) p = after a p >>= after b
after (sized before body) p =
    if nat_lt (length p.bits) (p.at + 13) then Err (short p)
    else (after body (forward p 13) >>= λ q.
    if number_here 13 p == before + (q.at - p.at) then Ok q
    else Err (record { at = p.at; end = q.at; why = kinds.Length }))

-- ---- packets

-- Packets with these numbers follow one another without a fault, and none of them where their list ends.
abbrev pub Pass : Stop → Fields → List ℕ → Place → Place → Type 0
Pass stop table [] p q = q ≡ p
Pass stop table (n ∷ more) p q =
    (ends stop p ≡ false) × (number_here 8 p ≡ n)
    × ((m : Place) × (after table p ≡ Ok m) × Pass stop table more m q)

-- The fault of the first packet that has one. The packets before it have none, and their list goes on there.
pub record IsPacketFault (stop : Stop) (table : Fields) (from : Place) (fault : Fault) : Type 0 where
  pub numbers : List ℕ
  pub reached : Place
  pub passed : Pass stop table numbers from reached
  pub goes_on : ends stop reached ≡ false
  pub is_fault : after table reached ≡ Err fault

-- No packet has a fault, and the one that a message requires is not there. The fault is where their list ends.
pub record IsLacking (table : Fields) (required : ℕ → Bool) (why : FaultKind) (from : Place)
    (fault : Fault) : Type 0 where
  pub numbers : List ℕ
  pub end : Place
  pub passed : Pass stops.Message table numbers from end
  pub over : ends stops.Message end ≡ true
  pub lacking : list_any required numbers ≡ false
  pub is_fault : fault ≡ record { at = end.at; end = length from.bits; why = why }

-- ---- telegrams and messages

-- the first fault of a telegram's bits: of its header, else of its packets
abbrev pub IsTelegramFault : List Bool → Fault → Type 0
IsTelegramFault bits fault =
    (after header_table (start bits) ≡ Err fault)
    ⊎ ((m : Place) × (after header_table (start bits) ≡ Ok m)
    × IsPacketFault stops.Telegram track_table m fault)

-- the fault of the packets of message 3, or of message 136
abbrev pub AreLater : Bool → Place → Fault → Type 0
AreLater true m fault =
    IsPacketFault stops.Message track_table m fault
    ⊎ IsLacking track_table (λ n. n == 15) kinds.NoAuthority m fault
AreLater false m fault =
    IsPacketFault stops.Message train_table m fault
    ⊎ IsLacking train_table (λ n. (n == 0) || (n == 1)) kinds.NoReport m fault

-- the first fault of a message's bytes: of its head, else of its packets
abbrev pub IsMessageFault : List ℕ → Fault → Type 0
IsMessageFault bytes fault =
    (after (message_table (length bytes)) (start (bits_of_bytes bytes)) ≡ Err fault)
    ⊎ ((m : Place) × (after (message_table (length bytes)) (start (bits_of_bytes bytes)) ≡ Ok m)
    × AreLater (number_here 8 (start (bits_of_bytes bytes)) == 3) m fault)

-- ---- what decides a fault

-- No telegram of as many bits begins with these bits up to the end of the fault.
abbrev pub NoTelegramBegins : List Bool → Fault → Type 0
NoTelegramBegins bits fault = (others : List Bool) → length others ≡ length bits
    → take fault.end others ≡ take fault.end bits → (t : Telegram) → IsTelegram t others → ⊥

-- No radio message of as many bytes begins with the bits of these bytes up to the end of the fault.
abbrev pub NoMessageBegins : List ℕ → Fault → Type 0
NoMessageBegins bytes fault = (others : List ℕ) → length others ≡ length bytes
    → take fault.end (bits_of_bytes others) ≡ take fault.end (bits_of_bytes bytes)
    → (m : Message) → IsMessage m others → ⊥
