use Rattle.etcs_packet.proofs.WholeLemmas.{whole_fault_is_read, read_is_whole_fault}
use Rattle.etcs_packet.proofs.laws.a_whole_fault_is_read.Goals as goal

-- both are the fault of the head, or of the list after a whole head
pub returns : goal.returns
returns g c = λ stop p f within. (
  λ is_fault. whole_fault_is_read g.H.Layout.format.of g.T.Layout.format.of stop g.H.Layout.format.fields g.T.Layout.format.fields p f c.requires within is_fault,
  λ read. read_is_whole_fault g.H.Layout.format.of g.T.Layout.format.of stop g.H.Layout.format.fields g.T.Layout.format.fields p f within read,
)
