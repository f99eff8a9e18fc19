use Rattle.etcs_packet.proofs.ListLemmas.{none_stand}
use Rattle.etcs_packet.proofs.laws.a_list_fault_means_no_list.Goals as goal

-- the fault stays in the other input, and reading gives one answer there
pub returns : goal.returns
returns g c = λ stop p f within is_fault. none_stand g.T.Layout.format.rows stop g.T.Layout.format.fields p f c.requires g.T.Layout.format.laid.are_rows within is_fault
