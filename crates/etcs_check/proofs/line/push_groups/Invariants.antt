use Rattle.std.proofs.Common.{◌≡◌, ◌++◌, ◌<◌, ℕ, true, List, drop, take}
use Rattle.etcs_telegram.specs.Record.{Telegram}
use Rattle.etcs_group.specs.Places.{At}
use Rattle.etcs_group.specs.Controlled.{IsControlled}
use Rattle.etcs_check.specs.Findings.{numbered_findings}
use Rattle.etcs_check.specs.Identities.{HasIdentity, is_kept}
use Rattle.etcs_check.specs.Line.{line_group_findings, group_list}
use Rattle.etcs_check.specs.LineChecker.{HasKept}
use Rattle.etcs_check.proofs.line.push_groups.Given as goal

-- The findings so far and those about the rest are all findings. Each group so far has aspects with the same
-- number of balises and an identity in range, which is kept if one is used again.
abbrev pub invariant-places : goal.invariant-places
invariant-places l = record {
  all : l.found.items ++ numbered_findings (line_group_findings l.groups) l.place (drop l.place l.groups) ≡ l.initial.found.items ++ group_list l.groups;
  controlled : (k : ℕ) (g : List (List Telegram)) → k < l.place → At l.groups k g → IsControlled g;
  numbered : (k : ℕ) (g : List (List Telegram)) → k < l.place → At l.groups k g → HasIdentity g;
  kept : l.again ≡ true → HasKept (is_kept l.kept.items) (take l.place l.groups);
}
