use Rattle.etcs_packet.proofs.WholeLemmas.{none_whole}
use Rattle.etcs_packet.proofs.laws.a_whole_fault_means_no_whole.Goals as goal

-- the fault stays in the other input, and reading gives one answer there
pub returns : goal.returns
returns g c = λ stop p f within is_fault.
    none_whole g.H.Layout.format.laid g.T.Layout.format.laid stop p f c.requires within is_fault
