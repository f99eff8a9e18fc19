use Rattle.std.proofs.Common.{◌++◌, ap, ◌∙◌}
use Rattle.etcs_check.specs.Line.{line_message_findings}
use Rattle.etcs_check.proofs.NoteLemmas.{on_err, index_at, each_stands, each_pushed}
use Rattle.etcs_check.proofs.line.push_messages.Goals as goal

-- The call allocated for a finding of this message.
pub returns-in_err-more-clause-memory : goal.returns-in_err-more-clause-memory
returns-in_err-more-clause-memory c =
    let at = index_at c.args.messages.now c.places.place _ c.index-messages-place.result c.places-test.true c.index-messages-place.is in
    on_err _ _ (each_stands line_message_findings c.args.messages.now c.places.place c.index-messages-place.result at c.in_err-more.ensures.memory)

pub returns-in_err-append-clause-memory : goal.returns-in_err-append-clause-memory
returns-in_err-append-clause-memory c =
    let at = index_at c.args.messages.now c.places.place _ c.index-messages-place.result c.places-test.true c.index-messages-place.is in
    on_err _ _ (each_stands line_message_findings c.args.messages.now c.places.place c.index-messages-place.result at (λ none.
    c.in_err-append.ensures.memory.1 (c.in_ok-more.ensures.ok ∙ none)))

-- The findings of this message were appended.
pub places-preserved : goal.places-preserved
places-preserved c =
    let at = index_at c.args.messages.now c.places.place _ c.index-messages-place.result c.places-test.true c.index-messages-place.is in
    each_pushed line_message_findings c.args.messages.now c.places.place c.index-messages-place.result c.places.found.items _ _ at
    (c.in_ok-append.ensures.ok ∙ ap (λ l. c.places.found.items ++ l) c.in_ok-more.ensures.ok) c.places.invariant
