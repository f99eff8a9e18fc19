use Rattle.std.proofs.Common.{◌-◌, ◌≤◌, map, length}
use Rattle.etcs_packet.specs.Lists.{Follow}
use Rattle.etcs_packet.proofs.list.read_items.Given as goal

-- the packets that were found follow one another up to the place of the loop
abbrev pub invariant-loop-found : goal.invariant-loop-found
invariant-loop-found g l = record {
  inside : l.fn.cur.at ≤ length l.fn.cur.bits;
  follow : Follow l.stop g.T.Layout.format.fields (map g.T.Layout.format.rows l.found.items) l.fn.cur l.ahead;
}

-- how many bits are left
abbrev pub decreases-loop-found : goal.decreases-loop-found
decreases-loop-found g l = length l.ahead.bits - l.ahead.at
