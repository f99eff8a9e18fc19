use Rattle.std.proofs.Common.{Err, ap, sym, ◌∙◌}
use Rattle.serde_json.specs.Read.{read}
use Rattle.etcs_document.proofs.DocumentLemmas.{is_json, is_no_json, no_value_read, not_readable, nothing_opens}
use Rattle.etcs_document.proofs.document.read_json.Goals as goal

-- bytes that are not UTF-8 are not JSON
pub returns-in_default-clause-gives : goal.returns-in_default-clause-gives
returns-in_default-clause-gives c = is_no_json _ (λ utf8. absurd (c.in_default.ensures.cases.0 utf8))

-- the tree has the value of the text
pub returns-in-Ok-read-clause-gives : goal.returns-in-Ok-read-clause-gives
returns-in-Ok-read-clause-gives c = is_json _ _ c.in-Ok.ensures.cases.1 (ap read (sym c.in-Ok.ensures.cases.0) ∙ c.in-Ok-read.ensures.ok)

-- the text has no value
pub returns-in-Err-NotJson-clause-gives : goal.returns-in-Err-NotJson-clause-gives
returns-in-Err-NotJson-clause-gives c = is_no_json _ (λ _. ap read (sym c.in-Ok.ensures.cases.0) ∙ c.in-Err-NotJson.ensures.not_json (ap Err c.in-Err-NotJson.field-0-is))

-- an empty input has no value, and needs no memory
pub returns-in-Ok-read-clause-empty : goal.returns-in-Ok-read-clause-empty
returns-in-Ok-read-clause-empty c = λ empty. absurd (no_value_read _ _ empty (ap read (sym c.in-Ok.ensures.cases.0) ∙ c.in-Ok-read.ensures.ok))

pub returns-in-Err-Memory-clause-empty : goal.returns-in-Err-Memory-clause-empty
returns-in-Err-Memory-clause-empty c = λ empty. absurd (nothing_opens _ _ (c.in-Ok.ensures.cases.0 ∙ empty) (c.in-Err-Memory.ensures.memory (ap Err c.in-Err-Memory.field-0-is)))

-- a text that is read is UTF-8
pub returns-in-Ok-read-clause-unreadable : goal.returns-in-Ok-read-clause-unreadable
returns-in-Ok-read-clause-unreadable c = λ unreadable. absurd (not_readable _ unreadable c.in-Ok.ensures.cases.1)

pub returns-in-Err-Memory-clause-unreadable : goal.returns-in-Err-Memory-clause-unreadable
returns-in-Err-Memory-clause-unreadable c = λ unreadable. absurd (not_readable _ unreadable c.in-Ok.ensures.cases.1)
