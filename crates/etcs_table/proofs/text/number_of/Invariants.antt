use Rattle.std.proofs.Common.{◌≡◌, ◌≤◌, ◌-◌, ◌+◌, ◌*◌, take}
use Rattle.std.specs.List.{fold}
use Rattle.etcs_table.proofs.text.number_of.Given as goal

-- the digits so far, and how many places they fill
abbrev pub invariant-loop-c : goal.invariant-loop-c
invariant-loop-c l = record {
  read : l.number ≡ fold (λ n c. n * 10 + (c - 48)) 0 (take l.c-index l.field);
  one : l.c-index ≤ 0 → l.number ≤ 0;
  two : l.c-index ≤ 1 → l.number ≤ 9;
  three : l.c-index ≤ 2 → l.number ≤ 99;
  four : l.c-index ≤ 3 → l.number ≤ 999;
}
