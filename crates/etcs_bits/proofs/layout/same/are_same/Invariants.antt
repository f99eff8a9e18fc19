use Rattle.std.proofs.Common.{◌≡◌, take}
use Rattle.etcs_bits.proofs.layout.same.are_same.Given as goal

-- the items so far are the same
abbrev pub invariant-items : goal.invariant-items
invariant-items g l = take l.i l.these ≡ take l.i l.those
