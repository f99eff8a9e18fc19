use Rattle.etcs_packet.proofs.WrittenLemmas.{written_stands}
use Rattle.etcs_packet.proofs.laws.written_packets_are_a_list.Goals as goal

-- each spelling is that of a record, and is no end mark
pub returns : goal.returns
returns g c = λ mark stop xs front rest allowed over bits is.
    written_stands g.T.Layout.format.rows xs stop g.T.Layout.format.fields front rest bits c.requires mark g.T.Layout.format.laid.are_rows allowed over is
