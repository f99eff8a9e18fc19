use Rattle.std.proofs.Common.{sym, ap, ◌∙◌}
use Rattle.etcs_bits.proofs.BindLemmas.{ok_is}
use Rattle.etcs_packet.proofs.ListLemmas.{stand_is_read}
use Rattle.etcs_packet.proofs.laws.a_place_has_one_list.Goals as goal

-- both lists are what reading gives there
pub returns : goal.returns
returns g c = λ stop xs ys p q r within s t.
    let first = stand_is_read g.T.Layout.format.laid xs stop p q c.requires within s in
    let second = stand_is_read g.T.Layout.format.laid ys stop p r c.requires within t in
    let same = ok_is (xs, q) (ys, r) (sym first ∙ second) in
    (ap (λ z. z.0) same, ap (λ z. z.1) same)
