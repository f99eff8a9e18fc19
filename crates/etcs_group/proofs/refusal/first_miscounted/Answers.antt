use Rattle.std.proofs.Common.{rules, tests, length, refl, ◌∙◌}
use Rattle.std.proofs.lemmas.Iterator.{YieldsList-from_range}
use Rattle.std.proofs.lemmas.Iterator.Search.{find_from_yields_List}
use Rattle.etcs_group.specs.Assembly.{is_miscounted}
use Rattle.etcs_group.specs.Places.{pointed}
use Rattle.etcs_group.proofs.PointedLemmas.{count-pointed, itself}
use Rattle.etcs_group.proofs.refusal.first_miscounted.Goals as goal

pub returns : goal.returns
returns c = itself _ ∙ find_from_yields_List (is_miscounted (pointed c.args.read.now)) _ _ c.find.result c.find.ensures.ran (YieldsList-from_range 0 (length c.args.read.now) (length (pointed c.args.read.now)) refl (count-pointed c.args.read.now)) (λ x b q k. search (rules, tests))
