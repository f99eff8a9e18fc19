use Rattle.etcs_packet.proofs.WrittenLemmas.{stand_spelled}
use Rattle.etcs_packet.proofs.laws.a_list_is_its_spellings.Goals as goal

-- each spelling stands after the one before it
pub returns : goal.returns
returns g c = λ stop xs p q stand.
    let listed = stand_spelled g.T.Layout.format.rows xs stop p q stand in
    (listed.spelled, listed.over)
