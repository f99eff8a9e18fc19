use Rattle.std.proofs.Common.{◌≡◌, ◌-◌, ◌<◌, refl, arith}
use Rattle.etcs_document.proofs.DocumentTokenLemmas.{group_taken}
use Rattle.etcs_document.proofs.TokenLemmas.{if_then}
use Rattle.etcs_document.proofs.token_groups.ControlledFromTokens.from_tokens.Goals as goal

pub returns : goal.returns
returns c =
    let inner : c.in_ok-inner.inner ≡ c.args.depth - 1 = omega (arith, c.in_ok-inner.ensures.depth) in
    let deep : 0 < c.args.depth = omega (arith, c.in_ok-inner.ensures.depth) in
    if_then _ _ _ _ c.then_some.ensures (λ closes. group_taken c.args.depth _ c.pass_open.new.self c.group_member.new.reader _ _ deep (c.in_ok-inner.ensures.object refl) (rw inner at c.in_ok-group.ensures) (c.pass_close.ensures.object refl closes))
