use Rattle.std.proofs.Common.{◌∙◌, Some, ap, map, option_map, sym}
use Rattle.json.specs.Value.{value_view}
use Rattle.json.proofs.Trees.{view-Object}
use Rattle.serde_json.specs.Find.{as_object}
use Rattle.etcs_schema.specs.Entries.{are_known}
use Rattle.etcs_schema.specs.json_value.Texts.{json_data}
use Rattle.etcs_schema.proofs.KeyLemmas.{all_known, keys_known}
use Rattle.etcs_schema.proofs.json_value.tree_value.ValueJsonTree.has_only.Goals as goal

pub returns-in-Object : goal.returns-in-Object
returns-in-Object c =
    let keys = map (λ l. l.now) c.args.keys.now in
    ap Some (c.are_among.ensures ∙ ap (all_known keys) c.deref.ensures.value ∙ keys_known keys c.in-Object.members.items)
    ∙ ap (λ j. option_map (are_known keys) (as_object (json_data j))) (sym (ap value_view c.in-Object.is ∙ view-Object c.in-Object.members))
