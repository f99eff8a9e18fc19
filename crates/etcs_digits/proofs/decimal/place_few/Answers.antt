use Rattle.std.proofs.Common.{slice_index, take, arith, ap, ◌∙◌, ◌+◌, ◌-◌, rules}
use Rattle.json.proofs.Printed.Places.{Placed-put_mid}
use Rattle.etcs_digits.proofs.DecimalLemmas.{placed_as}
use Rattle.etcs_digits.proofs.decimal.place_few.Goals as goal

pub returns-clause-placed : goal.returns-clause-placed
returns-clause-placed c =
    let row = c.row_of-row.result in
    let count = slice_index row 3 in
    placed_as (ap (take count) (search rules) ∙ c.row_of-row.ensures.digits)
    (Placed-put_mid c.args.buf.now c.copy_from_slice.new.self c.args.at (c.args.at + 4 - c.args.at) count (omega (arith, c.requires.room)) (search rules) (omega (arith, c.row_of-row.ensures.few)))
