use Rattle.etcs_bits.proofs.ListLemmas.{item_allowed}
use Rattle.etcs_bits.proofs.layout.items.are_allowed.Goals as goal

pub returns-then-not-is_allowed-clause-allowed : goal.returns-then-not-is_allowed-clause-allowed
returns-then-not-is_allowed-clause-allowed g c =
    let here = item_allowed g.T.Layout.format.rows c.args.items.now c.items.item-index c.item-item.result
    (record { inside = c.items-test.true; is = c.item-item.is }) in (
      λ h. absurd cc,
      λ h. absurd (let yes = c.is_allowed.ensures.allowed.1 (here h) in cc (yes, c.if-not-is_allowed.true)),
    )
