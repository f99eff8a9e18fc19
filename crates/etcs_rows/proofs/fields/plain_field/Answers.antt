use Rattle.std.proofs.Common.{drop, refl, take}
use Rattle.etcs_rows.specs.Fields.{BeginsWithField, EndsField, GoesOn}
use Rattle.etcs_rows.proofs.RunLemmas.{begins_plain, wrong_plain}
use Rattle.etcs_rows.proofs.fields.plain_field.Goals as goal

-- The bytes before the first stop are the field.
pub returns-in-Some-clause-field : goal.returns-in-Some-clause-field
returns-in-Some-clause-field c =
    let d = c.args.delimiter in
    let text = c.args.text.now in
    let r = c.plain_len.result in
    let ends : EndsField d (drop r text) c.in-Some.end c.in-Some.after.now = rw c.split_at.ensures.back at c.in-Some.ensures.ends in
    let begins : BeginsWithField d text (take r text) c.in-Some.end c.in-Some.after.now =
    begins_plain d text r c.plain_len.ensures.within c.plain_len.ensures.before c.in-Some.end c.in-Some.after.now ends in
    rw (c.new.ensures, c.split_at.ensures.front) begins

-- A stop that does not end the field is a quote.
pub returns-in-None-clause-wrong : goal.returns-in-None-clause-wrong
returns-in-None-clause-wrong c =
    let d = c.args.delimiter in
    let text = c.args.text.now in
    let r = c.plain_len.result in
    let goes : GoesOn d (drop r text) = rw c.split_at.ensures.back at (c.in-None.ensures.goes_on refl) in
    wrong_plain d text r c.plain_len.ensures.within c.plain_len.ensures.before c.plain_len.ensures.at c.requires.unquoted goes
