use Rattle.std.proofs.Common.{◌∙◌, false, true, ap, sym}
use Rattle.std.proofs.lemmas.List.{at_drop_all}
use Rattle.std.specs.List.{list_all}
use Rattle.std.specs.Prelude.{is_some}
use Rattle.json.specs.Value.{value_view}
use Rattle.json.proofs.Trees.{view-Array, view-Object}
use Rattle.serde_json.specs.Read.{of_json}
use Rattle.etcs_schema.proofs.TextLemmas.{array_some, object_some, one_tested}
use Rattle.etcs_schema.proofs.json_value.tree_range.+is_in_range.Goals as goal

pub loop-item-init : goal.loop-item-init
loop-item-init t c =
    ap (λ j. is_some (of_json j)) (ap value_view c.in-Array.is ∙ view-Array c.in-Array.items) ∙ array_some c.in-Array.items.items
    ∙ ap (list_all (λ v. is_some (of_json (value_view v)))) (sym c.deref-item-items.ensures.value)

pub loop-item-preserved : goal.loop-item-preserved
loop-item-preserved t c = one_tested _ _ _ c.item-item.result true _ c.loop-item-test.true c.item-item.is c.if-not-is_in_range.ensures c.loop-item.invariant

pub returns-then-not-is_in_range : goal.returns-then-not-is_in_range
returns-then-not-is_in_range t c = sym (one_tested _ _ _ c.item-item.result false _ c.loop-item-test.true c.item-item.is c.if-not-is_in_range.ensures c.loop-item.invariant)

pub returns-after-loop-item : goal.returns-after-loop-item
returns-after-loop-item t c = sym (c.loop-item.invariant ∙ at_drop_all (list_all (λ v. is_some (of_json (value_view v)))) _ _ c.loop-item-test.false)

pub loop-member-init : goal.loop-member-init
loop-member-init t c =
    ap (λ j. is_some (of_json j)) (ap value_view c.in-Object.is ∙ view-Object c.in-Object.members) ∙ object_some c.in-Object.members.items
    ∙ ap (list_all (λ m. is_some (of_json (value_view m.1)))) (sym c.deref-member-items.ensures.value)

pub loop-member-preserved : goal.loop-member-preserved
loop-member-preserved t c = one_tested _ _ _ c.member-item.result true _ c.loop-member-test.true c.member-item.is c.if-not-is_in_range-2.ensures c.loop-member.invariant

pub returns-then-not-is_in_range-2 : goal.returns-then-not-is_in_range-2
returns-then-not-is_in_range-2 t c = sym (one_tested _ _ _ c.member-item.result false _ c.loop-member-test.true c.member-item.is c.if-not-is_in_range-2.ensures c.loop-member.invariant)

pub returns-after-loop-member : goal.returns-after-loop-member
returns-after-loop-member t c = sym (c.loop-member.invariant ∙ at_drop_all (list_all (λ m. is_some (of_json (value_view m.1)))) _ _ c.loop-member-test.false)
