use Rattle.std.proofs.Common.{◌≡◌, ◌∙◌, true, false, drop, is_some, sym, ap, arith, take_all, length-drop}
use Rattle.fast_float.specs.Text.{scan}
use Rattle.serde_json.specs.Read.{number_from}
use Rattle.etcs_schema.proofs.NumberLemmas.{plain, signed}
use Rattle.etcs_schema.proofs.json_value.numbers.is_number_in_range.Goals as goal

-- the text after the sign is scanned
pub returns-then-has_minus : goal.returns-then-has_minus
returns-then-has_minus c =
    let s = c.args.text.now in
    let parts : c.scan.result ≡ scan (drop 1 s) = c.scan.ensures.parts ∙ ap scan (take_all _ (drop 1 s) (omega (arith, length-drop 1 s))) in
    c.is_in_range_below.ensures ∙ ap (λ p. is_some (number_from true p)) parts
    ∙ ap is_some (signed s (sym c.if-has_minus.ensures.value))

pub returns-else-has_minus : goal.returns-else-has_minus
returns-else-has_minus c =
    c.is_in_range_above.ensures ∙ ap (λ p. is_some (number_from false p)) c.scan-else-has_minus.ensures.parts
    ∙ ap is_some (plain _ (sym c.if-has_minus.ensures.value))
