-- What a yes states follows from the soundness of the line, and from how its document was read.
use Rattle.std.proofs.Common.{◌≡◌, ◌+◌, ◌∙◌, ℕ, Bool, List, [], ◌∷◌, Some, Ok, refl, ap}
use Rattle.std.specs.Prelude.{IsSomeAnd, codes}
use Rattle.serde_json.specs.Data.{Data}
use Rattle.serde_json.specs.Find.{as_str}
use Rattle.etcs_check.specs.Soundness.{IsSoundLine, IsSoundMessage}
use Rattle.etcs_document.proofs.BaliseLemmas.{some_and, telegrams_read}
use Rattle.etcs_document.proofs.ResultLemmas.{mapped_ok, same_ok, text_ok, then_ok}
use Rattle.etcs_document.proofs.ValueLemmas.{each_at, list_read, stands}
use Rattle.etcs_document.specs.Document.{◌then◌, document_line, document_list, document_message, in_form, json_value, line_groups, line_messages, line_of_text, read_indexed}
use Rattle.etcs_document.specs.DocumentFault.{bad_message}
use Rattle.etcs_schema.specs.Reading.{only_keys}
use Rattle.etcs_document.specs.Verdict.{AreMixturesDecided, IsOnlyRecord, IsReachedMessage, SaysYes, message_text}
use Rattle.etcs_group.specs.Laws.{IsDecided}
use Rattle.etcs_group.specs.Missed.{IsSetOf}
use Rattle.etcs_group.specs.Places.{At}
use Rattle.etcs_group.specs.Reading.{group_reading}
use Rattle.etcs_profile.specs.declared.run.Run.{Run}
use Rattle.etcs_radio.proofs.TextLemmas.{means_text, text_meaning}
use Rattle.etcs_radio.specs.Text.{IsMessageText}
use Rattle.etcs_radio.specs.TextMeaning.{message_of_text}
use Rattle.etcs_radio.specs.declared.message.Message.{Message}
use Rattle.etcs_radio.specs.declared.message.Message.TheVariants as messages
use Rattle.etcs_telegram.specs.Record.{Telegram}

-- ---- messages

message_in : (m : ℕ) (u : Data) (x : Message) → document_message m u ≡ Ok x → (text : List ℕ) × (as_str u ≡ Some text) × (message_of_text text ≡ Ok x)
unfolding document_message
message_in m u x is = text_ok _ message_of_text (bad_message m) (as_str u) x is

only_message : (text : List ℕ) (m : Message) → message_of_text text ≡ Ok m → IsOnlyRecord IsMessageText m text
only_message text m is = record {
  is = means_text m text is;
  only = λ u read. same_ok u m (message_of_text text) (text_meaning u text read) is;
}

-- each message is the message of its text
pub messages_read : (d : Data) (ms : List Message) → line_messages d ≡ Ok ms → (i : ℕ) (m : Message) → At ms i m → IsSomeAnd (message_text d i) (IsOnlyRecord IsMessageText m)
unfolding line_messages
messages_read d ms is i m here =
    let list = then_ok (document_list (codes "messages") d) (read_indexed document_message 0) ms is in
    let values = list_read (codes "messages") d list.0 (mapped_ok _ _ list.0 list.1) in
    let one = each_at document_message 0 list.0 ms list.2 i m here in
    let place_of = stands (codes "messages") d list.0 i one.0 values one.1 in
    let text = message_in (0 + i) one.0 m one.2 in
    some_and _ (message_text d i) text.0 (rw (place_of.1, place_of.2) text.1) (only_message text.0 m text.2)

-- ---- the line

pub line_read : (bytes : List ℕ) (line : List (List (List Telegram)) × List Message) → line_of_text bytes ≡ Ok line → (d : Data) × (json_value bytes ≡ Ok d) × (document_line d ≡ Ok line)
unfolding line_of_text
line_read bytes line is = then_ok (json_value bytes) document_line line is

pub parts_read : (d : Data) (groups : List (List (List Telegram))) (ms : List Message) → document_line d ≡ Ok (groups, ms) → (line_groups d ≡ Ok groups) × (line_messages d ≡ Ok ms)
unfolding document_line
parts_read d groups ms is =
    let form = in_form [] (only_keys (codes "groups" ∷ codes "messages" ∷ []) d) in
    let first = then_ok (form then λ _. line_groups d) (λ gs. line_messages d then λ xs. Ok (gs, xs)) (groups, ms) is in
    let before = then_ok form (λ _. line_groups d) first.0 first.1 in
    let last = then_ok (line_messages d) (λ xs. Ok (first.0, xs)) (groups, ms) first.2 in
    let both : (first.0, last.0) ≡ (groups, ms) = same_ok (first.0, last.0) (groups, ms) (Ok (first.0, last.0)) refl last.2 in
    (before.2 ∙ ap (λ p. Ok p.0) both, last.1 ∙ ap (λ p. Ok p.1) both)

reached : (m : Message) → IsSoundMessage m → IsReachedMessage m
reached (messages.Movement m) sound = sound.1
reached (messages.Position m) sound = tt

-- only what was missed decides whether a reading of an aspect is accepted
abbrev AreDecided : List (List (List Telegram)) → Type 0
AreDecided groups = (g a : ℕ) (aspects : List (List Telegram)) (group : List Telegram) (run : Run) (missed : ℕ → Bool)
    → At groups g aspects → At aspects a group → IsSetOf group missed → IsDecided run group missed (group_reading run missed group)

-- what a yes states is true for a sound line
pub says_yes : (bytes : List ℕ) (groups : List (List (List Telegram))) (ms : List Message) → line_of_text bytes ≡ Ok (groups, ms) → IsSoundLine groups ms
    → AreDecided groups → AreMixturesDecided groups → SaysYes bytes groups ms
says_yes bytes groups ms is sound decided mixtures =
    let whole = line_read bytes (groups, ms) is in
    let parts = parts_read whole.0 groups ms whole.2 in
    record {
      document = whole.0;
      json = whole.1;
      line = whole.2;
      telegrams = telegrams_read whole.0 groups parts.0;
      messages_read = messages_read whole.0 ms parts.1;
      readings = λ g a aspects group run missed here within set.
          let same = (decided g a aspects group run missed here within set).accepted in
          record { accepted = (same.1, same.0); sound = ((sound.sound g aspects here).sound a group within).readings run missed set };
      mixtures = mixtures;
      messages_reached = λ i m here. reached m (sound.messages_sound i m here);
      sound = sound;
    }
