use Rattle.std.proofs.Common.{◌≡◌, ◌-◌, ◌≤◌, ◌++◌, true, length, replicate}
use Rattle.etcs_telegram.proofs.encoding.fill.Given as goal

abbrev pub invariant-filling : goal.invariant-filling
invariant-filling l = record {
  longer : length l.fn.bits ≤ length l.bits;
  within : length l.bits ≤ l.len;
  ones : l.bits ≡ l.fn.bits ++ replicate (length l.bits - length l.fn.bits) true;
}

abbrev pub decreases-filling : goal.decreases-filling
decreases-filling l = l.len - length l.bits
