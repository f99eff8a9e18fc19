use Rattle.etcs_packet.proofs.WholeLemmas.{whole_is_read, read_is_whole}
use Rattle.etcs_packet.proofs.laws.a_whole_is_read.Goals as goal

-- the head and the list are each read where they are spelled, and spelled where they are read
pub returns : goal.returns
returns g c = λ stop h xs p q within. (
  λ whole. whole_is_read g.H.Layout.format.laid g.T.Layout.format.laid stop h xs p q c.requires within whole,
  λ read. read_is_whole g.H.Layout.format.laid g.T.Layout.format.laid stop h xs p q c.requires within read,
)
