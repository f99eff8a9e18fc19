use Rattle.std.proofs.Common.{◌≡◌, ℕ, ◌+◌, ◌-◌, vec_len}
use Rattle.etcs_check.specs.Identities.{is_kept}
use Rattle.etcs_check.proofs.identities.keep.Given as goal

-- the same numbers are kept
abbrev pub invariant-pages : goal.invariant-pages
invariant-pages l = (n : ℕ) → is_kept l.pages.items n ≡ is_kept l.initial.pages.items n

abbrev pub decreases-pages : goal.decreases-pages
decreases-pages l = l.page + 1 - vec_len l.pages
