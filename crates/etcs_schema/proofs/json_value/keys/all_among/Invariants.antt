use Rattle.std.proofs.Common.{◌≡◌, map, string_bytes}
use Rattle.std.specs.List.{list_all}
use Rattle.serde_json.specs.View.{members_view}
use Rattle.etcs_schema.specs.Entries.{are_known, is_known}
use Rattle.etcs_schema.proofs.json_value.keys.all_among.Given as goal

-- the remaining keys decide
abbrev pub invariant-loop-name : goal.invariant-loop-name
invariant-loop-name l = record {
  can : (goal.iterator-loop-name).can_next l.name-iterator;
  finite : (goal.iterator-loop-name).is_finite l.name-iterator;
  left : list_all (λ k. is_known (string_bytes k) (map (λ x. x.now) l.keys)) l.name-iterator ≡ are_known (map (λ x. x.now) l.keys) (members_view l.members.entries);
}
