use Rattle.etcs_bits.proofs.LayoutLemmas.{laid_out}
use Rattle.etcs_bits.proofs.laws.a_fault_means_no_record.Goals as goal

pub returns : goal.returns
returns g c = (laid_out g.T.Layout.format).fault_or_record
