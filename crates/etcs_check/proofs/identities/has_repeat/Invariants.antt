use Rattle.std.proofs.Common.{◌*◌, ◌<◌}
use Rattle.etcs_check.specs.Identities.{HaveIdentities, HasNoRepeat}
use Rattle.etcs_check.proofs.identities.has_repeat.Given as goal

-- none of the parts so far has a repeat, and one pass sees every identity
abbrev pub invariant-parts : goal.invariant-parts
invariant-parts l = record {
  none : HasNoRepeat 0 (l.part * 2097152) l.groups;
  numbered : 0 < l.part → HaveIdentities l.groups;
}
