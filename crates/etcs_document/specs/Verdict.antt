-- What a yes states about bytes: they are the document of a line, and the line is sound.
use Rattle.std.specs.Prelude.{◌≡◌, ◌↔◌, ℕ, Bool, List, [], length, Option, Some, Result, Ok, codes, filter, option_and_then, IsOkAnd, IsSomeAnd}
use Rattle.std.specs.Option.{option_map_or}
use Rattle.serde_json.specs.Data.{Data}
use Rattle.serde_json.specs.Find.{as_str, at, get}
use Rattle.etcs_check.specs.Laws.{NamesTheUnsound}
use Rattle.etcs_check.specs.Line.{findings}
use Rattle.etcs_check.specs.Profiles.{AreReached}
use Rattle.etcs_check.specs.Soundness.{IsSoundLine, IsSoundReading}
use Rattle.etcs_check.specs.declared.finding.Finding.{Finding}
use Rattle.etcs_document.specs.Document.{◌then◌, document_line, json_value, line_of_text}
use Rattle.etcs_document.specs.DocumentFault.{DocumentFault}
use Rattle.etcs_document.specs.declared.line_error.LineError.{LineError}
use Rattle.etcs_document.specs.declared.check.Verdict.{Verdict}
use Rattle.etcs_group.specs.Assembly.{IsAccepted}
use Rattle.etcs_group.specs.Laws.{IsMixtureDecided}
use Rattle.etcs_group.specs.Missed.{IsCovered, IsSetOf}
use Rattle.etcs_group.specs.Mixture.{Fits}
use Rattle.etcs_group.specs.Places.{At}
use Rattle.etcs_group.specs.Reading.{group_reading}
use Rattle.etcs_group.specs.Group.{Telegrams, Aspects}
use Rattle.etcs_profile.specs.Track.{holds}
use Rattle.etcs_profile.specs.declared.run.Run.{Run}
use Rattle.etcs_radio.specs.Text.{IsMessageText}
use Rattle.etcs_radio.specs.declared.message.Message.{Message}
use Rattle.etcs_radio.specs.declared.message.Message.TheVariants as messages
use Rattle.etcs_telegram.specs.Record.{Telegram}
use Rattle.etcs_telegram.specs.Text.{IsTelegramText}

-- ---- the verdict

-- a line, and all its findings
abbrev pub Judged : Type 0
Judged = (List Aspects × List Message) × List Finding

-- the line, with all facts against it
abbrev pub judged : List Aspects × List Message → Judged
judged line = (line, findings line.0 line.1)

-- the line of bytes with all facts against it, or the first fault of the bytes
abbrev pub verdict_of_text : List ℕ → Result Judged DocumentFault
verdict_of_text bytes = line_of_text bytes then λ line. Ok (judged line)

-- the numbers of groups and messages of a line, and all its findings
abbrev pub Summary : Type 0
Summary = (ℕ × ℕ) × List Finding

abbrev pub summary : Judged → Summary
summary verdict = ((length verdict.0.0, length verdict.0.1), verdict.1)

-- the counts and the findings of bytes, or the first fault of the bytes
abbrev pub summary_of_text : List ℕ → Result Summary DocumentFault
summary_of_text bytes = verdict_of_text bytes then λ verdict. Ok (summary verdict)

-- the answer is yes: there is a verdict, and no fact against the line
abbrev pub IsYes : Result Verdict LineError → Type 0
IsYes answer = IsOkAnd answer (λ verdict. verdict.findings.items ≡ [])

-- the bytes are a line, and that line is sound
abbrev pub IsSoundText : List ℕ → Type 0
IsSoundText bytes = IsOkAnd (line_of_text bytes) (λ line. IsSoundLine line.0 line.1)

-- the bytes are a line, and the findings of the list name what is not sound in it, and only that
abbrev pub NamesUnsoundParts : List ℕ → List Finding → Type 0
NamesUnsoundParts bytes found = IsOkAnd (line_of_text bytes) (λ line. NamesTheUnsound line.0 line.1 found)

-- ---- each text is the text of exactly one telegram or message, its record

-- the object with the balises of aspect a of a group: an item of its aspects if it has such a list, and
-- otherwise the group itself
abbrev pub aspect_object : ℕ → Data → Option Data
aspect_object a group = option_map_or (at a) (get (codes "aspects") group) (Some group)

-- the text of item i of the list at a key of an object, if there is one
abbrev pub item_text : List ℕ → ℕ → Data → Option (List ℕ)
item_text name i d = option_and_then as_str (option_and_then (at i) (get name d))

-- the text of balise b in aspect a of group g in a document, if there is one
abbrev pub balise_text : Data → ℕ → ℕ → ℕ → Option (List ℕ)
balise_text d g a b =
    option_and_then (item_text (codes "balises") b)
    (option_and_then (aspect_object a) (option_and_then (at g) (get (codes "groups") d)))

-- the text of message m in a document, if there is one
abbrev pub message_text : Data → ℕ → Option (List ℕ)
message_text d m = item_text (codes "messages") m d

-- the text is the text of this record, and of no other
pub record IsOnlyRecord {X : Type 0} (Is : X → List ℕ → Type 0) (x : X) (text : List ℕ) : Type 0 where
  pub is : Is x text
  pub only : (y : X) → Is y text → y ≡ x

-- ---- what a yes states

-- In each running direction each movement authority among the packets of message 3 that hold has
-- gradient and speed profiles, all up to its supervised location.
abbrev pub IsReachedMessage : Message → Type 0
IsReachedMessage (messages.Movement m) = (run : Run) → AreReached (filter (holds run) m.packets)
IsReachedMessage (messages.Position m) = Unit {0}

-- In each group a mixture is accepted if and only if it is covered and some aspect has, at their places, all
-- the telegrams that it shows; its packets are then the packets of that aspect with nothing missed.
abbrev pub AreMixturesDecided : List Aspects → Type 0
AreMixturesDecided groups = (g : ℕ) (aspects : Aspects) (run : Run) (shown : ℕ → Option ℕ)
    → At groups g aspects → Fits aspects shown → IsMixtureDecided run aspects shown

-- The message assembled from an aspect, if a train has missed these balises: it is accepted if and only if
-- their declared duplicates are read. It then equals the message with nothing missed, and is reached.
pub record IsSoundIfCovered (group : Telegrams) (run : Run) (missed : ℕ → Bool) : Type 0 where
  pub accepted : IsCovered group missed ↔ IsAccepted run (group_reading run missed group)
  pub sound : IsCovered group missed → IsSoundReading group run missed

-- Every telegram and message of the line has exactly one record. For each aspect of every group, running
-- direction and set of missed balises whose declared duplicates are read, the assembled message is accepted
-- and equals the message with nothing missed. Every other set is refused. In these messages, and among the
-- packets of each message 3 that hold, every movement authority has gradient and speed profiles, all reaching
-- at least its supervised location. Mixtures of aspects are decided. The line is sound, so no two groups have
-- the same identity.
pub record SaysYes (bytes : List ℕ) (groups : List Aspects) (messages : List Message) : Type 0 where
  pub document : Data
  pub json : json_value bytes ≡ Ok document
  pub line : document_line document ≡ Ok (groups, messages)
  pub telegrams : (g a b : ℕ) (aspects : Aspects) (group : Telegrams) (t : Telegram)
      → At groups g aspects → At aspects a group → At group b t
      → IsSomeAnd (balise_text document g a b) (IsOnlyRecord IsTelegramText t)
  pub messages_read : (i : ℕ) (m : Message) → At messages i m
      → IsSomeAnd (message_text document i) (IsOnlyRecord IsMessageText m)
  pub readings : (g a : ℕ) (aspects : Aspects) (group : Telegrams)
      → (run : Run) (missed : ℕ → Bool) → At groups g aspects → At aspects a group → IsSetOf group missed
      → IsSoundIfCovered group run missed
  pub mixtures : AreMixturesDecided groups
  pub messages_reached : (i : ℕ) (m : Message) → At messages i m → IsReachedMessage m
  pub sound : IsSoundLine groups messages

-- The bytes are a line for which all of this is true.
abbrev pub TextSaysYes : List ℕ → Type 0
TextSaysYes bytes = IsOkAnd (line_of_text bytes) (λ line. SaysYes bytes line.0 line.1)
