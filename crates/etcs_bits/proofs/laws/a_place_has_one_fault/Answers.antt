use Rattle.etcs_bits.proofs.LayoutLemmas.{laid_out}
use Rattle.etcs_bits.proofs.laws.a_place_has_one_fault.Goals as goal

pub returns : goal.returns
returns g c = (laid_out g.T.Layout.format).one_fault
