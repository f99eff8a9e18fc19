use Rattle.etcs_packet.proofs.ItemLemmas.{list_fault_is_read, read_is_list_fault}
use Rattle.etcs_packet.proofs.laws.a_list_fault_is_read.Goals as goal

-- after whole records, both are the fault of the next record
pub returns : goal.returns
returns g c = λ stop p f within. (
  λ is_fault. list_fault_is_read g.T.Layout.format.of stop g.T.Layout.format.fields p f c.requires within is_fault,
  λ read. read_is_list_fault g.T.Layout.format.of stop g.T.Layout.format.fields p f within read,
)
