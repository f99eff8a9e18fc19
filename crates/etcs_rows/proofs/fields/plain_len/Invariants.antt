use Rattle.std.proofs.Common.{◌≡◌, ◌<◌, ℕ, false, slice_index}
use Rattle.etcs_rows.specs.Fields.{is_stop}
use Rattle.etcs_rows.proofs.fields.plain_len.Given as goal

abbrev pub invariant-loop-i : goal.invariant-loop-i
invariant-loop-i l = (k : ℕ) → k < l.i → is_stop l.delimiter (slice_index l.text k) ≡ false
