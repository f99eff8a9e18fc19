-- The rows of each telegram and of each radio message are allowed, if none of its numbers is spare.
-- What is written of a value whose rows are allowed is read as that value again.
use Rattle.std.proofs.Common.{◌≡◌, ◌++◌, ℕ, Bool, true, false, List, codes, refl, subst, arith}
use Rattle.std.specs.List.{flat_map}
use Rattle.std.proofs.lemmas.List.{append_cancel_right}
use Rattle.serde_json.specs.Read.{max_depth}
use Rattle.etcs_bits.specs.bits.Number.{worth}
use Rattle.etcs_bits.specs.layout.Rows.{AreAllowed, IsAllowed, alone, row}
use Rattle.etcs_bits.specs.variables.Identity.{identity as identity_layout}
use Rattle.etcs_bits.specs.variables.Variables.{plain}
use Rattle.etcs_profile.specs.Track.{d_static, difference as difference_layout, track_packet as track_layout, v_static}
use Rattle.etcs_profile.specs.declared.track.TrackPacket.{TrackPacket}
use Rattle.etcs_profile.specs.declared.track.speed.SpeedElement.{SpeedElement}
use Rattle.etcs_profile.specs.Authority.{AuthorityValue, authority as authority_layout}
use Rattle.etcs_radio.specs.Record.{Movement, Position}
use Rattle.etcs_radio.specs.Report.{report as report_layout}
use Rattle.etcs_radio.specs.Required.{has_authority, has_report}
use Rattle.etcs_radio.specs.TrainPacket.{train_packet as train_layout}
use Rattle.etcs_radio.specs.declared.message.Message.{Message}
use Rattle.etcs_radio.specs.declared.message.Message.TheVariants as messages
use Rattle.etcs_radio.specs.declared.report.Report.{Report}
use Rattle.etcs_radio.specs.declared.train_packet.TrainPacket.{TrainPacket}
use Rattle.etcs_telegram.specs.Header.{header as header_layout}
use Rattle.etcs_telegram.specs.Record.{Telegram}
use Rattle.etcs_json.specs.AnyMessage.{message, numbered}
use Rattle.etcs_json.specs.Authority.{authority, either_authority}
use Rattle.etcs_json.specs.JsonLine.{IsReadAs, json_line_text}
use Rattle.etcs_json.specs.Laws.{IsMessageInRange, IsReadAgain, IsTelegramInRange}
use Rattle.etcs_json.specs.Messages.{movement_rows, position_rows}
use Rattle.etcs_json.specs.Report.{either_report, lrbg_allowed, report}
use Rattle.etcs_schema.specs.Codec.{Codec, Object, all_append, closed, entries_apart, list_back, object, object_again, object_codec, object_shallow}
use Rattle.etcs_json.specs.Telegrams.{telegram, telegram_rows}
use Rattle.etcs_json.specs.TrackPackets.{difference, speed_element, track_numbered, track_packet}
use Rattle.etcs_json.specs.TrainPackets.{train_numbered, train_packet}
use Rattle.etcs_schema.specs.ReadBack.{IsReadBack, object_back}
use Rattle.etcs_schema.specs.Variables.{flag, number}
use Rattle.etcs_schema.proofs.ReadBackProofs.{text_read_back}

pub telegram_allowed : (t : Telegram) → IsTelegramInRange t → AreAllowed (telegram_rows t)
telegram_allowed t allowed = all_append IsAllowed (header_layout.rows t.header) (flat_map track_layout.rows t.packets) allowed.header allowed.packets

pub telegram_again : (t : Telegram) → AreAllowed (telegram_rows t) → IsReadAgain (object telegram) t
telegram_again t rows = (text_read_back (object telegram) (object_shallow telegram) t rows, object_again telegram t rows)

-- ---- messages

flag_allowed : (b : Bool) → IsAllowed (row (plain 1) (worth b))
flag_allowed true = (omega arith, refl)
flag_allowed false = (omega arith, refl)

pub movement_allowed : (m : Movement) → AreAllowed (alone (plain 32) m.time) → AreAllowed (identity_layout.rows m.lrbg) → AreAllowed (flat_map track_layout.rows m.packets)
    → has_authority m.packets ≡ true → AreAllowed (movement_rows m)
unfolding alone
movement_allowed m time group packets there = ((omega arith, there), (time.0, (flag_allowed m.ack, (group.0, (group.1.0, packets)))))

pub position_allowed : (m : Position) → AreAllowed (alone (plain 32) m.time) → AreAllowed (alone (plain 24) m.engine) → AreAllowed (flat_map train_layout.rows m.packets)
    → has_report m.packets ≡ true → AreAllowed (position_rows m)
unfolding alone
position_allowed m time engine packets there = ((omega arith, there), (time.0, (engine.0, packets)))

-- a message of each kind as one of both

pub movement_in : (m : Movement) → AreAllowed (movement_rows m) → AreAllowed (message.rows (messages.Movement m))
unfolding message alone
movement_in m allowed = ((omega arith, refl), allowed)

pub position_in : (m : Position) → AreAllowed (position_rows m) → AreAllowed (message.rows (messages.Position m))
unfolding message alone
position_in m allowed = ((omega arith, refl), allowed)

pub message_allowed : (m : Message) → IsMessageInRange m → AreAllowed (message.rows m)
unfolding alone
message_allowed (messages.Movement m) allowed =
    movement_in m (movement_allowed m (allowed.head.0, tt) (lrbg_allowed m.lrbg allowed.head.1.1) allowed.packets allowed.complete)
message_allowed (messages.Position m) allowed =
    position_in m (position_allowed m (allowed.head.0, tt) allowed.head.1 allowed.packets allowed.complete)

pub message_again : (m : Message) → AreAllowed (message.rows m) → IsReadAgain message m
unfolding message
message_again m rows = (text_read_back message numbered.shallow m rows, message.again m rows)

-- a line that is written for a record is read as that record
pub line_again : {X : Type 0} (form : Codec X) (x : X) (line : List ℕ) → json_line_text form x ≡ line ++ codes "\n" → IsReadAgain form x → IsReadAs form line x
unfolding json_line_text
line_again form x line same again = subst (λ l. IsReadAs form l x) (append_cancel_right _ _ _ same) again

-- ---- the text of what was written is read again

pub record_read : {X : Type 0} (o : Object X) (x : X) → AreAllowed (o.rows x) → IsReadBack max_depth ((object_codec o).to x)
record_read o x = (object_codec o).back.1 max_depth (object_shallow (closed o.members o.readable)) x

pub authority_read : (a : AuthorityValue) → AreAllowed (authority_layout.rows a) → IsReadBack max_depth (authority.to a)
unfolding authority
authority_read a = authority.back.1 max_depth either_authority.shallow a

pub report_read : (r : Report) → AreAllowed (report_layout.rows r) → IsReadBack max_depth (report.to r)
unfolding report
report_read r = report.back.1 max_depth either_report.shallow r

pub track_read : (p : TrackPacket) → AreAllowed (track_layout.rows p) → IsReadBack max_depth (track_packet.to p)
track_read p = track_packet.back.1 max_depth track_numbered.shallow p

pub train_read : (p : TrainPacket) → AreAllowed (train_layout.rows p) → IsReadBack max_depth (train_packet.to p)
train_read p = train_packet.back.1 max_depth train_numbered.shallow p

pub message_read : (m : Message) → AreAllowed (message.rows m) → IsReadBack max_depth (message.to m)
unfolding message
message_read m = message.back.1 max_depth numbered.shallow m

-- also of an element with too many differences
pub speed_read : (e : SpeedElement) → AreAllowed (alone (plain 15) e.distance) → AreAllowed (v_static.rows e.speed) → AreAllowed (alone (plain 1) (worth e.front)) → AreAllowed (flat_map difference_layout.rows e.differences)
    → IsReadBack max_depth ((object speed_element).to e)
unfolding speed_element difference
speed_read e distance speed front differences =
    object_back max_depth (speed_element.members.to e) (entries_apart speed_element.members speed_element.readable e) (omega arith)
    ((number d_static.fields).back.1 126 (omega arith) e.distance distance, ((number v_static.fields).back.1 126 (omega arith) e.speed speed, (flag.back.1 126 (omega arith) e.front front, (list_back (object difference) 126 (omega arith) e.differences differences, tt))))
