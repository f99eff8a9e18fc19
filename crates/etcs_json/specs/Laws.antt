-- The laws of forms: the form of each telegram and of each radio message is read as that value, and the text
-- of the form as the form.
use Rattle.std.specs.Prelude.{◌≡◌, true, List}
use Rattle.serde_json.specs.Written.{compact_text}
use Rattle.etcs_schema.specs.Prelude.{flat_map, AreAllowed, Row}
use Rattle.etcs_profile.specs.Track.{track_packet}
use Rattle.etcs_telegram.specs.Header.{header}
use Rattle.etcs_telegram.specs.Record.{Telegram}
use Rattle.etcs_radio.specs.Head.{movement_head, position_head}
use Rattle.etcs_radio.specs.Message.{is_complete, packet_rows}
use Rattle.etcs_radio.specs.declared.message.Message.{Message}
use Rattle.etcs_radio.specs.declared.message.Message.TheVariants as messages
use Rattle.etcs_json.specs.AnyMessage.{message}
use Rattle.etcs_json.specs.JsonLine.{IsReadAs}
use Rattle.etcs_schema.specs.Codec.{Codec, object}
use Rattle.etcs_json.specs.Telegrams.{telegram}

-- The text of the form of x is read as that form, and the form is read as x.
abbrev pub IsReadAgain : {X : Type 0} → Codec X → X → Type 0
IsReadAgain form x = IsReadAs form (compact_text (form.to x)) x

-- ---- telegrams

-- Each number of the telegram fits in its bits, and none is spare. Its packets may have more bits than
-- its size.
pub record IsTelegramInRange (t : Telegram) : Type 0 where
  pub header : AreAllowed (header.rows t.header)
  pub packets : AreAllowed (flat_map track_packet.rows t.packets)

-- The form of a telegram is read as that telegram, and the text of the form as the form.
abbrev pub TelegramsAreReadAgain : Type 0
TelegramsAreReadAgain = (t : Telegram) → IsTelegramInRange t → IsReadAgain (object telegram) t

-- Two telegrams with one form are equal.
abbrev pub TelegramsHaveFormsOfTheirOwn : Type 0
TelegramsHaveFormsOfTheirOwn = (t u : Telegram) → IsTelegramInRange t → IsTelegramInRange u
    → (object telegram).to t ≡ (object telegram).to u → t ≡ u

-- ---- radio messages

-- the rows before the packets, except NID_MESSAGE and L_MESSAGE
abbrev pub head_rows : Message → List Row
head_rows (messages.Movement m) = movement_head.rows (m.time, (m.ack, m.lrbg))
head_rows (messages.Position m) = position_head.rows (m.time, m.engine)

-- Each number of the message fits in its bits, and none is spare. The message contains the packet that it
-- must contain. It may have more bytes than L_MESSAGE counts.
pub record IsMessageInRange (m : Message) : Type 0 where
  pub head : AreAllowed (head_rows m)
  pub packets : AreAllowed (packet_rows m)
  pub complete : is_complete m ≡ true

-- The form of a message is read as that message, and the text of the form as the form.
abbrev pub MessagesAreReadAgain : Type 0
MessagesAreReadAgain = (m : Message) → IsMessageInRange m → IsReadAgain message m

-- Two messages with one form are equal.
abbrev pub MessagesHaveFormsOfTheirOwn : Type 0
MessagesHaveFormsOfTheirOwn = (m n : Message) → IsMessageInRange m → IsMessageInRange n
    → message.to m ≡ message.to n → m ≡ n
