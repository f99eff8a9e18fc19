use Rattle.std.proofs.Common.{rules, tests, ◌||◌, eqb, not, sym, ap, ◌∙◌}
use Rattle.std.proofs.lemmas.Iterator.{YieldsList-from_slice}
use Rattle.std.proofs.lemmas.Iterator.Search.{any_from_yields_List}
use Rattle.etcs_group.specs.Assembly.{names}
use Rattle.etcs_group.proofs.PointedLemmas.{list_any-pointed}
use Rattle.etcs_group.proofs.refusal.is_absent.Goals as goal

pub returns : goal.returns
returns c = ap not (any_from_yields_List (λ r. eqb r.now.header.position c.args.wanted || names r.now c.args.wanted) _ _ _ c.any.ensures.ran (YieldsList-from_slice c.args.read.now cc) (λ x b q k. search (rules, tests)) ∙ sym (list_any-pointed _ c.args.read.now))
