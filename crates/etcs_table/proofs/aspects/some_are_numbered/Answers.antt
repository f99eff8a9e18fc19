use Rattle.std.proofs.Common.{◌∙◌, sym, rules, tests}
use Rattle.std.proofs.lemmas.Iterator.{YieldsList-from_slice}
use Rattle.std.proofs.lemmas.Iterator.Search.{any_from_yields_List}
use Rattle.etcs_table.specs.Groups.{is_numbered}
use Rattle.etcs_table.proofs.LoopLemmas.{list_any-pointed}
use Rattle.etcs_table.proofs.aspects.some_are_numbered.Goals as goal

pub returns : goal.returns
returns c = any_from_yields_List (λ r. is_numbered r.now) _ _ _ c.any.ensures.ran (YieldsList-from_slice c.args.rows.now cc) (λ x b q k. search (rules, tests)) ∙ sym (list_any-pointed (λ f. is_numbered f) c.args.rows.now)
