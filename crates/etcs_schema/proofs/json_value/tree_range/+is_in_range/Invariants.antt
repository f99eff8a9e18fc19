use Rattle.std.proofs.Common.{◌≡◌, drop}
use Rattle.std.specs.List.{list_all}
use Rattle.std.specs.Prelude.{is_some}
use Rattle.json.specs.Value.{value_view}
use Rattle.serde_json.specs.Read.{of_json}
use Rattle.etcs_schema.proofs.json_value.tree_range.+is_in_range.Given as goal

-- the remaining items or members decide
abbrev pub invariant-loop-item : goal.invariant-loop-item
invariant-loop-item l = is_some (of_json (value_view l.value)) ≡ list_all (λ v. is_some (of_json (value_view v))) (drop l.item-index l.item-items)

abbrev pub invariant-loop-member : goal.invariant-loop-member
invariant-loop-member l = is_some (of_json (value_view l.value)) ≡ list_all (λ m. is_some (of_json (value_view m.1))) (drop l.member-index l.member-items)
