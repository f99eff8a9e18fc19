use Rattle.std.proofs.Common.{◌≡◌, ◌-◌, ◌<◌, refl, arith}
use Rattle.etcs_document.proofs.DocumentTokenLemmas.{aspect_taken}
use Rattle.etcs_document.proofs.TokenLemmas.{if_then, then_some_is}
use Rattle.etcs_document.proofs.token_groups.GroupFromTokens.from_tokens.Goals as goal

pub returns : goal.returns
returns c =
    let inner : c.in_ok-inner.inner ≡ c.args.depth - 1 = omega (arith, c.in_ok-inner.ensures.depth) in
    let deep : 0 < c.args.depth = omega (arith, c.in_ok-inner.ensures.depth) in
    if_then _ _ _ _ c.then_some-2.ensures (λ closes. aspect_taken c.args.depth _ c.pass_open.new.self c.pass_key.new.self c.balises.new.reader _ _ deep (c.in_ok-inner.ensures.object refl) (c.pass_key.ensures.yes (then_some_is _ _ _ c.in_ok-then_some.ensures).0) (rw inner at c.in_ok-group.ensures)
    (c.pass_close.ensures.object refl closes))
