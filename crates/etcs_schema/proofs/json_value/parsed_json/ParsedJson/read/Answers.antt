use Rattle.std.proofs.Common.{◌≡◌, ◌∙◌, [], Some, ap, option_and_then, rules}
use Rattle.json.specs.Json.{if_last, value}
use Rattle.json.specs.Lex.{tokens}
use Rattle.json.specs.Value.{value_view}
use Rattle.serde_json.specs.Read.{of_json}
use Rattle.etcs_schema.proofs.TextLemmas.{json_read}
use Rattle.etcs_schema.proofs.json_value.parsed_json.ParsedJson.read.Goals as goal

-- nothing follows the value
pub returns-then-is_in_range-clause-ok : goal.returns-then-is_in_range-clause-ok
returns-then-is_in_range-clause-ok c =
    let j = value_view c.in-Ok-read.value in
    let is : value 127 (tokens c.args.text.now) ≡ Some (j, []) = search rules in
    ap (λ o. option_and_then of_json (option_and_then (λ p. if_last p.0 p.1) o)) is ∙ json_read j c.if-is_in_range.ensures
