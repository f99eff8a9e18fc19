use Rattle.std.proofs.Common.{◌≡◌, ◌++◌, take}
use Rattle.std.specs.List.{flat_map}
use Rattle.etcs_bits.specs.layout.Rows.{join}
use Rattle.etcs_packet.proofs.list.write_items.Given as goal

-- the packets up to here are written
abbrev pub invariant-items : goal.invariant-items
invariant-items g l =
    l.out ≡ l.fn.out ++ join (flat_map g.T.Layout.format.rows (take l.item-index l.items))
