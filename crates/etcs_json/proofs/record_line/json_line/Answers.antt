use Rattle.std.proofs.Common.{◌∙◌, ◌++◌, ap}
use Rattle.std.specs.Prelude.{codes}
use Rattle.serde_json.proofs.Texts.{print-outline}
use Rattle.etcs_digits.specs.JsonLineWriter.{puts}
use Rattle.etcs_schema.specs.Writing.{data_tokens}
use Rattle.etcs_json.specs.JsonLine.{json_line_text}
use Rattle.etcs_json.proofs.record_line.json_line.Goals as goal

-- the buffer has the value's form, and then the end of the line
pub returns : goal.returns
unfolding json_line_text
returns g c =
    let d = g.T.Form.codec.to c.args.value.now in
    c.in_ok-line.ensures (data_tokens d) (c.in_ok-write_json.ensures ∙ ap (λ l. puts l (data_tokens d)) c.new-out.ensures)
    ∙ ap (λ s. s ++ codes "\n") (print-outline d)
