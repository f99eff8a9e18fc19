use Rattle.std.proofs.Common.{◌≡◌, ◌-◌, ◌^◌, take}
use Rattle.std.specs.Prelude.{min}
use Rattle.std.specs.List.{flat_map}
use Rattle.etcs_bits.specs.layout.Rows.{width}
use Rattle.etcs_bits.proofs.layout.items.width_of.Given as goal

abbrev pub invariant-items : goal.invariant-items
invariant-items g l =
    l.sum ≡ min (width (flat_map g.T.Layout.format.rows (take l.item-index l.items))) (2 ^ 64 - 1)
