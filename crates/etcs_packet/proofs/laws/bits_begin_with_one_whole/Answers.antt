use Rattle.std.proofs.Common.{sym, ap, ◌∙◌, arith}
use Rattle.etcs_bits.proofs.BindLemmas.{ok_is}
use Rattle.etcs_packet.specs.Whole.{start}
use Rattle.etcs_packet.proofs.WholeLemmas.{whole_is_read}
use Rattle.etcs_packet.proofs.laws.bits_begin_with_one_whole.Goals as goal

-- both are what reading gives at the beginning
pub returns : goal.returns
returns g c = λ stop h k xs ys bits v w.
    let first = whole_is_read g.H.Layout.format.laid g.T.Layout.format.laid stop h xs (start bits) v.end c.requires (omega arith) v.whole in
    let second = whole_is_read g.H.Layout.format.laid g.T.Layout.format.laid stop k ys (start bits) w.end c.requires (omega arith) w.whole in
    let same = ok_is ((h, xs), v.end) ((k, ys), w.end) (sym first ∙ second) in
    (ap (λ z. z.0.0) same, ap (λ z. z.0.1) same)
