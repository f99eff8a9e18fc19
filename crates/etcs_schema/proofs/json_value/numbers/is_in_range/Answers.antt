use Rattle.std.proofs.Common.{◌∙◌, is_some, ap}
use Rattle.serde_json.specs.Read.{number_of}
use Rattle.etcs_schema.proofs.NumberLemmas.{digits_in_range}
use Rattle.etcs_schema.proofs.json_value.numbers.is_in_range.Goals as goal

-- plain digits
pub returns-in-Some : goal.returns-in-Some
returns-in-Some c =
    let is = c.in-Some.ensures in
    digits_in_range _ _ is.0 is.1 is.2 ∙ ap (λ s. is_some (number_of s)) c.as_bytes.ensures.value
