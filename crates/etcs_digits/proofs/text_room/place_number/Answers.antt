use Rattle.std.proofs.Common.{◌≤◌, arith, decimal, length, rules}
use Rattle.std.proofs.lemmas.Fmt.{length-decimal-le}
use Rattle.etcs_digits.proofs.text_room.place_number.Goals as goal

-- a number has 20 digits at most
pub place_byte-requires : goal.place_byte-requires
place_byte-requires c =
    let digits : length (decimal c.args.n) ≤ 20 = length-decimal-le 20 c.args.n (omega arith) (omega arith) (omega arith) in
    search rules
