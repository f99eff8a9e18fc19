use Rattle.std.proofs.Common.{◌≡◌, ◌≤◌, ◌*◌, sum_by, take}
use Rattle.etcs_profile.proofs.authority.length_of.Given as goal

abbrev pub invariant-sections : goal.invariant-sections
invariant-sections l = record {
  small : l.sum ≤ l.section-index * 32767;
  so_far : l.sum ≡ sum_by (λ s. s.length) (take l.section-index l.sections);
}
