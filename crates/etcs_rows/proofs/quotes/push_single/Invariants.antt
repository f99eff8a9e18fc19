use Rattle.std.proofs.Common.{◌≡◌, ◌++◌, drop}
use Rattle.etcs_rows.specs.Fields.{single, single_after}
use Rattle.etcs_rows.proofs.quotes.push_single.Given as goal

abbrev pub invariant-loop-byte : goal.invariant-loop-byte
invariant-loop-byte l = l.out.items ++ single_after l.is_first (drop l.byte-index l.raw) ≡ l.fn.out.items ++ single l.raw
