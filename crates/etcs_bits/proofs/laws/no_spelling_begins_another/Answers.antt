use Rattle.etcs_bits.proofs.LayoutLemmas.{laid_out}
use Rattle.etcs_bits.proofs.laws.no_spelling_begins_another.Goals as goal

pub returns : goal.returns
returns g c = (laid_out g.T.Layout.format).no_front
