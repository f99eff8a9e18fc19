use Rattle.std.proofs.Common.{◌≡◌, ◌-◌, ◌≤◌, ◌++◌, ℕ, List, [], false, drop, length, take}
use Rattle.etcs_rows.specs.Fields.{in_field, single}
use Rattle.etcs_rows.specs.Machine.{quoted}
use Rattle.etcs_rows.specs.Rows.{rows_after}
use Rattle.etcs_rows.proofs.quotes.quoted_len.Given as goal

abbrev pub invariant-pairs : goal.invariant-pairs
invariant-pairs l = record {
  within : l.at ≤ length l.text;
  read : (delimiter number : ℕ) (fields : List (List ℕ))
      → rows_after delimiter (in_field number fields quoted (single (take l.at l.text))) (drop l.at l.text)
      ≡ rows_after delimiter (in_field number fields quoted (single [])) l.text;
  paired : (rest : List ℕ) → single (take l.at l.text ++ rest) ≡ single (take l.at l.text) ++ single rest;
  unpaired : l.has_quotes ≡ false → l.at ≡ 0;
}

abbrev pub decreases-pairs : goal.decreases-pairs
decreases-pairs l = length l.text - l.at
