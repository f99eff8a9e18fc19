use Rattle.etcs_bits.proofs.LayoutLemmas.{fault_is_read}
use Rattle.etcs_bits.proofs.laws.a_fault_is_read_as_it_is_defined.Goals as goal

pub returns : goal.returns
returns g c = fault_is_read g.T.Layout.format
