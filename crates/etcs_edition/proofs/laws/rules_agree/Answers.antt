use Rattle.etcs_edition.proofs.RuleLemmas as lemmas
use Rattle.etcs_edition.proofs.laws.rules_agree.Goals as goal

pub returns : goal.returns
returns c = lemmas.rules_agree
