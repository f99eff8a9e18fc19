use Rattle.std.proofs.Common.{◌∙◌, Some, ap, map, option_map, sym}
use Rattle.json.specs.Value.{value_view}
use Rattle.json.proofs.Trees.{view-Array}
use Rattle.serde_json.specs.Find.{as_array}
use Rattle.etcs_schema.specs.Reading.{data_list}
use Rattle.etcs_schema.specs.json_value.Texts.{json_data}
use Rattle.etcs_schema.proofs.AnyList.{tree_items}
use Rattle.etcs_schema.proofs.json_value.tree_value.ValueJsonTree.items.Goals as goal

pub returns-in-Array : goal.returns-in-Array
returns-in-Array c =
    ap Some (ap (map (λ v. json_data (value_view v))) c.as_slice.ensures.value ∙ sym (tree_items c.in-Array.items.items))
    ∙ ap (λ j. option_map data_list (as_array (json_data j))) (sym (ap value_view c.in-Array.is ∙ view-Array c.in-Array.items))
