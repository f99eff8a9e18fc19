use Rattle.std.proofs.Common.{arith}
use Rattle.std.proofs.lemmas.Fmt.{length-decimal-le}
use Rattle.json.proofs.Printed.Places.{Placed-then}
use Rattle.etcs_digits.proofs.DecimalLemmas.{placed_as, three_more}
use Rattle.etcs_digits.proofs.decimal.place_many.Goals as goal

pub place_long-requires : goal.place_long-requires
place_long-requires c = omega (arith, length-decimal-le 20 c.args.n (omega arith) (omega arith) (omega arith))

pub returns : goal.returns
returns c =
    placed_as (three_more c.args.n (omega arith) (omega arith))
    (Placed-then c.place_few-at.ensures.placed (Placed-then c.place_digit-at.ensures (Placed-then c.place_digit-at-2.ensures c.place_digit.ensures)))
