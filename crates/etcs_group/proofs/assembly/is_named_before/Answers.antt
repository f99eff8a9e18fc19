use Rattle.std.proofs.Common.{rules, tests, sym, ◌∙◌}
use Rattle.std.proofs.lemmas.Iterator.{YieldsList-from_slice}
use Rattle.std.proofs.lemmas.Iterator.Search.{any_from_yields_List}
use Rattle.etcs_group.specs.Assembly.{names}
use Rattle.etcs_group.proofs.PointedLemmas.{list_any-pointed}
use Rattle.etcs_group.proofs.assembly.is_named_before.Goals as goal

pub returns : goal.returns
returns c = any_from_yields_List (λ r. names c.args.telegram.now r.now.header.position) _ _ _ c.any.ensures.ran (YieldsList-from_slice c.args.earlier.now cc) (λ x b q k. search (rules, tests)) ∙ sym (list_any-pointed _ c.args.earlier.now)
