use Rattle.std.proofs.Common.{rules, ap, sym, ◌∙◌}
use Rattle.json.specs.Json.{read_key}
use Rattle.etcs_document.proofs.StreamingLemmas.{groups_then, messages_then}
use Rattle.etcs_document.proofs.TokenLemmas.{if_some, then_some_is}
use Rattle.etcs_document.proofs.streaming.members.Goals as goal

-- the groups, and then the messages
pub returns-then-pass_key : goal.returns-then-pass_key
returns-then-pass_key c empty = if_some _ _ c.items-then-pass_key.result c.items-then-pass_key.ensures (λ u messages.
    let second = c.pass_key-then-pass_key in
    groups_then c.args.depth _ _ c.items.new.reader second.new.self _ _ c.items.new.sink _ empty (c.pass_key.ensures.yes (search rules)) c.in_ok-items.ensures (second.ensures.yes (then_some_is _ _ _ c.in_ok-then_some.ensures).0) messages)

-- the messages, and then the groups; the first key is not the next one
pub returns : goal.returns
returns c empty = if_some _ _ c.items-3.result c.items-3.ensures (λ u groups.
    let named = ap read_key (sym (c.pass_key.ensures.no (search rules))) ∙ c.pass_key-2.ensures.yes (then_some_is _ _ _ c.in_ok-then_some-2.ensures).0 in
    messages_then c.args.depth _ _ c.items-2.new.reader c.pass_key-3.new.self _ _ c.items-2.new.sink _ empty named c.in_ok-items-2.ensures (c.pass_key-3.ensures.yes (then_some_is _ _ _ c.in_ok-then_some-3.ensures).0) groups)
