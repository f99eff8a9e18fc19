use Rattle.std.proofs.Common.{◌≡◌, ℕ, ◌<◌, List, length, take}
use Rattle.etcs_telegram.specs.Record.{Telegram}
use Rattle.etcs_group.specs.Places.{At}
use Rattle.etcs_check.specs.Identities.{HasIdentity}
use Rattle.etcs_check.proofs.IdentityLemmas.{HasSeen, IsFresh}
use Rattle.etcs_check.proofs.identities.repeats_in.Given as goal

-- the identities of the part that were seen are marked, and none was used before
abbrev pub invariant-groups : goal.invariant-groups
invariant-groups l = record {
  long : length l.table ≡ 32768;
  seen : HasSeen l.base 2097152 l.table (take l.i l.groups);
  fresh : (k : ℕ) (g : List (List Telegram)) → k < l.i → At l.groups k g → IsFresh l.base 2097152 l.groups k g;
  numbered : (k : ℕ) (g : List (List Telegram)) → k < l.i → At l.groups k g → HasIdentity g;
}
