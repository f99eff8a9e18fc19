use Rattle.std.proofs.Common.{Err, ◌∙◌, ap, refl, sym}
use Rattle.serde_json.specs.Read.{read}
use Rattle.etcs_run.specs.FormLines.{or_fault}
use Rattle.etcs_run.proofs.FormLemmas.{gives_same, no_record, text_read}
use Rattle.etcs_run.proofs.form_lines.record_in_line.Goals as goal

-- the bytes are not UTF-8
pub returns-in_default-clause-gives : goal.returns-in_default-clause-gives
returns-in_default-clause-gives g c = no_record g.T.Encoded.form c.args.line.now (λ utf8. absurd (c.in_default.ensures.cases.0 utf8))

-- the line is the form of a record
pub returns-in-Some-clause-gives : goal.returns-in-Some-clause-gives
returns-in-Some-clause-gives g c = text_read g.T.Encoded.form c.args.line.now _ _ _ refl c.in-Ok.ensures.cases.1 c.in-Some.ensures.read.0 refl ∙ ap or_fault c.in-Some.ensures.read.1

-- the tree has the value of the line
pub returns-in-Ok-read-clause-gives : goal.returns-in-Ok-read-clause-gives
returns-in-Ok-read-clause-gives g c =
    gives_same (λ x. x) _ _ _ c.record_of.ensures.gives
    (text_read g.T.Encoded.form c.args.line.now _ _ _ c.in-Ok.ensures.cases.0 c.in-Ok.ensures.cases.1 c.in-Ok-read.ensures.ok c.root.ensures)

-- the line is not JSON
pub returns-in-Err-NotJson-clause-gives : goal.returns-in-Err-NotJson-clause-gives
returns-in-Err-NotJson-clause-gives g c =
    let none = c.in-Err-NotJson.ensures.not_json (ap Err c.in-Err-NotJson.field-0-is) in
    no_record g.T.Encoded.form c.args.line.now (λ _. ap read (sym c.in-Ok.ensures.cases.0) ∙ none)
