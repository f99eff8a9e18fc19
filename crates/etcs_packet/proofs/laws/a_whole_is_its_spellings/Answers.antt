use Rattle.etcs_packet.proofs.WrittenLemmas.{whole_spelled}
use Rattle.etcs_packet.proofs.laws.a_whole_is_its_spellings.Goals as goal

-- the list stands after the head
pub returns : goal.returns
returns g c = λ stop h xs bits begins. whole_spelled g.H.Layout.format.rows g.T.Layout.format.rows h xs stop bits begins
