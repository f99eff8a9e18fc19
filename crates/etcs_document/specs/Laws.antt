-- The laws of documents: a document has no findings if and only if it is the document of a sound line.
use Rattle.std.specs.Prelude.{◌≡◌, ◌↔◌, ℕ, List, [], IsOkAnd}
use Rattle.etcs_document.specs.Verdict.{IsSoundText, TextSaysYes, summary_of_text}

-- Bytes are read as a line without a finding if and only if they are the document of a sound line.
abbrev pub NoFindingMeansSoundText : Type 0
NoFindingMeansSoundText =
    (bytes : List ℕ) → IsOkAnd (summary_of_text bytes) (λ checked. checked.1 ≡ []) ↔ IsSoundText bytes

-- If bytes are read as a line without a finding, everything that a yes states is true for this line.
abbrev pub NoFindingSaysYes : Type 0
NoFindingSaysYes =
    (bytes : List ℕ) → IsOkAnd (summary_of_text bytes) (λ checked. checked.1 ≡ []) → TextSaysYes bytes
