use Rattle.std.proofs.Common.{◌∙◌}
use Rattle.etcs_schema.proofs.Keys.{any_key}
use Rattle.etcs_schema.proofs.json_value.keys.is_key.Goals as goal

pub returns : goal.returns
returns c = c.is_one_of.ensures ∙ any_key c.args.name.now c.args.keys.now
