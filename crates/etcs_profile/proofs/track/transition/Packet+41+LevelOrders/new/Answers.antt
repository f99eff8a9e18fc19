use Rattle.std.proofs.Common.{◌+◌, ◌≤◌, ◌<◌, length, arith}
use Rattle.etcs_bits.specs.layout.Rows.{alone, width}
use Rattle.etcs_bits.specs.layout.Format.{several}
use Rattle.etcs_bits.specs.variables.Level.{m_level}
use Rattle.etcs_bits.proofs.WidthLemmas.{width_both}
use Rattle.etcs_profile.specs.Transition.{l_ackleveltr, level_order, level_orders, orders}
use Rattle.etcs_profile.proofs.ShortLemmas.{IsShort, level_short, several_short, made_built}
use Rattle.etcs_profile.proofs.track.transition.Packet+41+LevelOrders.new.Goals as goal

order_short : IsShort level_order 26
unfolding alone
order_short o = omega (arith, level_short o.level, width_both (m_level.rows o.level) (l_ackleveltr.rows o.acknowledge))

-- 32 orders have at most 832 bits
pub returns : goal.returns
unfolding alone
returns c =
    let further = c.args.further.items in
    let few : length further ≤ 31 = omega (arith, c.if-len-gt31.false, c.len.ensures) in
    let body = orders c.args.scale c.args.d_leveltr c.args.first further in
    let fits : 23 + width (level_orders.rows body) ≤ 8191 =
    omega (arith, width_both (level_order.rows body.first) ((several level_order).rows further), order_short body.first, several_short level_order 26 order_short further few) in
    let some = rw c.new.ensures at c.of.ensures.some in
    let made = rw c.new.ensures at c.of.ensures.fit in
    rw c.ok_or.ensures.value (made_built c.of.result (c.args.dir, body) (31 < length further) (λ more. absurd (omega (arith, few, more))) some (made.1 (tt, fits)))
