use Rattle.std.proofs.Common.{◌≡◌, ◌+◌, ◌≤◌, Some, option_map, length}
use Rattle.serde_json.specs.Find.{as_array}
use Rattle.etcs_schema.specs.Reading.{data_list}
use Rattle.etcs_schema.proofs.json_value.JsonValue.has_between.Given as goal

-- the items so far and the remaining ones are the list's items
abbrev pub invariant-items : goal.invariant-items
invariant-items g l = record {
  few : l.count ≤ l.high;
  all : option_map (λ ds. length (data_list ds)) (as_array (g.Self.JsonValue.value l.self)) ≡ Some (l.count + length (g.Self.JsonValue.rest l.items));
}

abbrev pub decreases-items : goal.decreases-items
decreases-items g l = length (g.Self.JsonValue.rest l.items)
