use Rattle.std.proofs.Common.{◌≤◌, length, arith}
use Rattle.etcs_bits.specs.layout.Rows.{alone}
use Rattle.etcs_bits.specs.layout.Fields.{sized}
use Rattle.etcs_bits.specs.layout.Combined.{body_rows}
use Rattle.etcs_bits.proofs.LayoutLemmas.{is_spelled}
use Rattle.etcs_bits.proofs.SizedLemmas.{AreSized, sized_place, sized_ok}
use Rattle.etcs_bits.proofs.layout.body.BodyLayout.scan.Goals as goal

pub overflow_sub-end : goal.overflow_sub-end
overflow_sub-end g c =
    let within : c.args.cur.now.at ≤ length c.args.cur.now.bits = omega (arith, c.at-at.ensures.place, c.at-at.ensures.inside) in
    let place = sized_place g.T.Layout.format.fields c.args.cur.now c.in_ok-length.length c.take.new.self (g.T.Layout.format.rows c.in_ok-content.content) c.scan.new.cur
    (record { within = within; length_read = c.in_ok-length.ensures.exact; body_read = c.in_ok-content.ensures.gives }) in
    omega (arith, place, c.at-at.ensures.place, c.at-end.ensures.place)

pub returns-clause-gives : goal.returns-clause-gives
unfolding alone
returns-clause-gives g c =
    let within : c.args.cur.now.at ≤ length c.args.cur.now.bits = omega (arith, c.at-at.ensures.place, c.at-at.ensures.inside) in
    let made : AreSized g.T.Layout.format.fields c.args.cur.now c.in_ok-length.length c.take.new.self (g.T.Layout.format.rows c.in_ok-content.content) c.scan.new.cur =
    record { within = within; length_read = c.in_ok-length.ensures.exact; body_read = c.in_ok-content.ensures.gives } in
    sized_ok g.row.BEFORE g.T.Layout.format.fields c.args.cur.now c.in_ok-length.length c.take.new.self (g.T.Layout.format.rows c.in_ok-content.content) c.scan.new.cur made (omega arith)

pub invariant_of-result : goal.invariant_of-result
unfolding alone
invariant_of-result g c =
    let within : c.args.cur.now.at ≤ length c.args.cur.now.bits = omega (arith, c.at-at.ensures.place, c.at-at.ensures.inside) in
    let made : AreSized g.T.Layout.format.fields c.args.cur.now c.in_ok-length.length c.take.new.self (g.T.Layout.format.rows c.in_ok-content.content) c.scan.new.cur =
    record { within = within; length_read = c.in_ok-length.ensures.exact; body_read = c.in_ok-content.ensures.gives } in
    (is_spelled (sized g.row.BEFORE g.T.Layout.format.fields) (body_rows g.row.BEFORE g.T.Layout.format.rows c.in_ok-content.content) c.args.cur.now c.scan.new.cur within
    (sized_ok g.row.BEFORE g.T.Layout.format.fields c.args.cur.now c.in_ok-length.length c.take.new.self (g.T.Layout.format.rows c.in_ok-content.content) c.scan.new.cur made (omega arith))).allowed
