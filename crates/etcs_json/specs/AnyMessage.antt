-- The form of a radio message, by its number (SUBSET-026, 8.6 and 8.7).
use Rattle.std.specs.Prelude.{◌≡◌, ◌⊎◌, codes, refl}
use Rattle.etcs_schema.specs.Prelude.{inl, inr}
use Rattle.etcs_radio.specs.Head.{nid_message}
use Rattle.etcs_radio.specs.Record.{Movement, Position}
use Rattle.etcs_radio.specs.declared.message.Message.{Message}
use Rattle.etcs_radio.specs.declared.message.Message.TheVariants as messages
use Rattle.etcs_schema.specs.Choices.{Choice, by_kind, chosen, either, last}
use Rattle.etcs_json.specs.Messages.{movement, position}
use Rattle.etcs_schema.specs.Codec.{Codec, renamed}

abbrev pub either_message : Movement ⊎ Position → Message
either_message m = by_kind messages.Movement messages.Position m

abbrev pub message_kinds : Message → Movement ⊎ Position
message_kinds (messages.Movement m) = inl m
message_kinds (messages.Position m) = inr m

pub message_again : (m : Message) → either_message (message_kinds m) ≡ m
message_again (messages.Movement m) = refl
message_again (messages.Position m) = refl

-- message 3 or 136
abbrev pub numbered : Choice (codes "nid_message") nid_message (Movement ⊎ Position)
numbered = either movement (last position) refl

-- NID_MESSAGE is read first: 3 or 136
unfoldable pub message : Codec Message
message = renamed either_message message_kinds message_again
    (chosen (codes "nid_message") numbered.allows numbered (λ v _. numbered.is_number v))
