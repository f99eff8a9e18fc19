use Rattle.std.proofs.Common.{◌∙◌, drop, false, option_and_then, sym, ap}
use Rattle.fast_float.specs.Text.{scan}
use Rattle.serde_json.specs.Find.{as_u64}
use Rattle.serde_json.specs.Read.{number_from}
use Rattle.etcs_schema.proofs.NumberLemmas.{never_whole, plain, signed, whole_from}
use Rattle.etcs_schema.proofs.json_value.numbers.whole_number_of.Goals as goal

pub returns-then-has_minus : goal.returns-then-has_minus
returns-then-has_minus c =
    let s = c.args.text.now in
    never_whole (scan (drop 1 s)) ∙ ap (option_and_then as_u64) (signed s (sym c.if-has_minus.ensures.value))

pub returns-else-has_minus : goal.returns-else-has_minus
returns-else-has_minus c =
    whole_from c.scan.result _ c.to_u64.ensures ∙ ap (λ p. option_and_then as_u64 (number_from false p)) c.scan.ensures.parts
    ∙ ap (option_and_then as_u64) (plain _ (sym c.if-has_minus.ensures.value))
