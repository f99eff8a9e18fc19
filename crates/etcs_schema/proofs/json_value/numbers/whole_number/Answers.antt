use Rattle.std.proofs.Common.{◌∙◌, option_and_then, ap}
use Rattle.serde_json.specs.Find.{as_u64}
use Rattle.serde_json.specs.Read.{number_of}
use Rattle.etcs_schema.proofs.NumberLemmas.{digits_number}
use Rattle.etcs_schema.proofs.json_value.numbers.whole_number.Goals as goal

-- plain digits
pub returns-in-Some : goal.returns-in-Some
returns-in-Some c =
    let is = c.in-Some.ensures in
    digits_number _ _ is.0 is.1 is.2 ∙ ap (λ s. option_and_then as_u64 (number_of s)) c.as_bytes.ensures.value
