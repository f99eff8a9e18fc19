use Rattle.std.proofs.Common.{◌∙◌}
use Rattle.etcs_document.proofs.DocumentLemmas.{is_no_json, not_counted, not_readable, nothing_read}
use Rattle.etcs_document.proofs.StreamingLemmas.{data_counted}
use Rattle.etcs_document.proofs.YesLemmas.{counted_none, counted_unnamed, no_finding_says_yes}
use Rattle.etcs_document.proofs.streaming.check_in_order.Goals as goal

-- what is found of the value is what the bytes mean
pub returns-clause-exact : goal.returns-clause-exact
returns-clause-exact c = data_counted _ _ _ c.in_ok-document.ensures.gives c.root.ensures ∙ c.in_ok-check_document.ensures

-- what was found group by group is what the bytes mean
pub returns-in-Some-clause-says : goal.returns-in-Some-clause-says
returns-in-Some-clause-says c = λ none. no_finding_says_yes c.args.bytes.now (counted_none _ _ c.in-Some.ensures none)

pub returns-clause-says : goal.returns-clause-says
returns-clause-says c = λ none. no_finding_says_yes c.args.bytes.now (counted_none _ _ (returns-clause-exact c) none)

-- each finding of the bytes names its group or its message
pub returns-in-Some-clause-unnamed : goal.returns-in-Some-clause-unnamed
returns-in-Some-clause-unnamed c = counted_unnamed c.args.bytes.now _ c.in-Some.ensures

pub returns-clause-unnamed : goal.returns-clause-unnamed
returns-clause-unnamed c = counted_unnamed c.args.bytes.now _ (returns-clause-exact c)

-- an empty input is not a line
pub returns-in-Some-clause-empty : goal.returns-in-Some-clause-empty
returns-in-Some-clause-empty c = λ empty. absurd (not_counted _ _ (is_no_json _ (λ _. nothing_read _ empty)) c.in-Some.ensures)

-- bytes that are not UTF-8 are not a line
pub returns-in-Some-clause-unreadable : goal.returns-in-Some-clause-unreadable
returns-in-Some-clause-unreadable c = λ unreadable. absurd (not_counted _ _ (is_no_json _ (λ utf8. absurd (not_readable _ unreadable utf8))) c.in-Some.ensures)
