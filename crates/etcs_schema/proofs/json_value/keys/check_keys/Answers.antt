use Rattle.std.proofs.Common.{map, true, false}
use Rattle.etcs_schema.proofs.Objects.{fails_as, keys_known, keys_none}
use Rattle.etcs_schema.proofs.json_value.keys.check_keys.Goals as goal

pub returns-in-None-clause-keys : goal.returns-in-None-clause-keys
returns-in-None-clause-keys g c = fails_as _ _ _ c.kind.ensures.fault (keys_none _ _ c.in-None.ensures)

pub returns-then-known-clause-keys : goal.returns-then-known-clause-keys
returns-then-known-clause-keys g c = keys_known (map (λ l. l.now) c.args.keys.now) _ true (rw c.if-known.true at c.in-Some.ensures)

pub returns-else-known-clause-keys : goal.returns-else-known-clause-keys
returns-else-known-clause-keys g c = fails_as _ _ _ c.unknown.ensures.fault (keys_known _ _ false (rw c.if-known.false at c.in-Some.ensures))
