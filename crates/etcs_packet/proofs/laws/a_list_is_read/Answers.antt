use Rattle.etcs_packet.proofs.ListLemmas.{stand_is_read, read_stands}
use Rattle.etcs_packet.proofs.laws.a_list_is_read.Goals as goal

-- each record is read where it is spelled, and spelled where it is read
pub returns : goal.returns
returns g c = λ stop xs p q within. (
  λ stand. stand_is_read g.T.Layout.format.laid xs stop p q c.requires within stand,
  λ read. read_stands g.T.Layout.format.laid xs stop p q c.requires within read,
)
