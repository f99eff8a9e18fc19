-- What a yes states: the bytes are the document of a line, and this line is sound. `IsSoundLine` of
-- etcs_check/specs/Soundness.antt states what trains may read of it (after SUBSET-026, 3.16.2).
use Rattle.std.specs.Prelude.{ℕ, List}
use Rattle.etcs_group.specs.Group.{Aspects}
use Rattle.etcs_check.specs.Soundness.{IsSoundLine}
use Rattle.etcs_radio.specs.declared.message.Message.{Message}
use Rattle.etcs_edition.specs.Document.{IsLineText}

-- Everything else that the answer yes states follows from these two parts.
pub record SaysYes (bytes : List ℕ) (groups : List Aspects) (messages : List Message) : Type 0 where
  pub text : IsLineText bytes groups messages
  pub sound : IsSoundLine groups messages
