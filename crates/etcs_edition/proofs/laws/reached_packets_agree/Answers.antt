use Rattle.etcs_edition.proofs.ReachLemmas as lemmas
use Rattle.etcs_edition.proofs.laws.reached_packets_agree.Goals as goal

pub returns : goal.returns
returns c = lemmas.reached_agree
