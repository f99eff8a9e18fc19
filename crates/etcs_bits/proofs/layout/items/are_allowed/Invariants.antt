use Rattle.std.proofs.Common.{take}
use Rattle.std.specs.List.{AllByRecursion, flat_map}
use Rattle.etcs_bits.specs.layout.Rows.{AreAllowed}
use Rattle.etcs_bits.proofs.layout.items.are_allowed.Given as goal

abbrev pub invariant-items : goal.invariant-items
invariant-items g l = record {
  allowed : AreAllowed (flat_map g.T.Layout.format.rows (take l.item-index l.items));
  fit : AllByRecursion g.T.Layout.fit (take l.item-index l.items);
}
