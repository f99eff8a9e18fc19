-- The items of a list that has any number of them.
use Rattle.std.proofs.Common.{◌≡◌, Global, List, [], ◌∷◌, map, refl, ap}
use Rattle.json.specs.Value as json
use Rattle.json.specs.declared.value.Value as json_value
use Rattle.serde_json.specs.View.{view, items_view}
use Rattle.serde_json.specs.declared.value.Value.{Value}
use Rattle.etcs_schema.specs.Reading.{data_list}
use Rattle.etcs_schema.specs.json_value.Texts.{items_data, json_data}

pub data_items : (vs : List Value) → data_list (items_view vs) ≡ map view vs
data_items [] = refl
data_items (v ∷ vs) = ap (λ r. view v ∷ r) (data_items vs)

pub tree_items : (vs : List (json_value.Value Global)) → data_list (items_data (json.items_view vs)) ≡ map (λ v. json_data (json.value_view v)) vs
tree_items [] = refl
tree_items (v ∷ vs) = ap (λ r. json_data (json.value_view v) ∷ r) (tree_items vs)
