use Rattle.std.proofs.Common.{◌≡◌, ◌≢◌, ◌∙◌, ◌+◌, drop, get_or, arith, refl, take}
use Rattle.std.proofs.lemmas.List.{get_or-drop}
use Rattle.etcs_rows.specs.Fields.{EndsQuoted, GoesOn, field_text}
use Rattle.etcs_rows.specs.Machine.{closed}
use Rattle.etcs_rows.proofs.QuoteLemmas.{quote_opens, text_follows}
use Rattle.etcs_rows.proofs.fields.quoted_field.Goals as goal

-- No quote ends the field.
pub returns-in_default-clause-wrong : goal.returns-in_default-clause-wrong
returns-in_default-clause-wrong c = λ n fields. quote_opens c.args.delimiter n fields c.args.text.now ∙ c.in_default.ensures.open refl c.args.delimiter n fields

-- The field ends with a quote, and then with a delimiter, a line end or the text.
pub returns-in-Some-end_of_field-clause-field : goal.returns-in-Some-end_of_field-clause-field
returns-in-Some-end_of_field-clause-field c = λ n fields.
    let d = c.args.delimiter in
    let ends : EndsQuoted c.args.text.now c.new.result c.split_at-2.result.1.now =
    rw (c.new.ensures, c.split_at.ensures.front, c.split_at-2.ensures.back) c.in-Some.ensures.ends in
    quote_opens d n fields c.args.text.now
    ∙ ends d n fields
    ∙ c.in-Some-end_of_field.ensures.ends closed n fields c.new.result refl

-- Text follows the quote.
pub returns-in-None-clause-wrong : goal.returns-in-None-clause-wrong
returns-in-None-clause-wrong c = λ n fields.
    let d = c.args.delimiter in
    let text = c.args.text.now in
    let len = c.in-Some.len in
    let field = field_text c.in-Some.has_quotes (take len text) in
    let here : len + 1 + 0 ≡ len + 1 = omega arith in
    let unquoted : get_or (drop (len + 1) text) 0 0 ≢ 34 = rw (get_or-drop (len + 1) text 0 0, here) c.in-Some.ensures.closed in
    let goes : GoesOn d (drop (len + 1) text) = rw c.split_at-2.ensures.back at (c.in-None.ensures.goes_on refl) in
    quote_opens d n fields text ∙ c.in-Some.ensures.ends d n fields ∙ text_follows d n fields field (drop (len + 1) text) unquoted goes
