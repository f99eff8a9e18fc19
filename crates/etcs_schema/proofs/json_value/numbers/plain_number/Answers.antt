use Rattle.std.proofs.Common.{◌≡◌, ◌<◌, ◌+◌, [], ◌∷◌, ◌++◌, arith, get_or, length, length-take, take}
use Rattle.std.specs.Char.{digit_value}
use Rattle.std.specs.Str.Parse.{digits_value}
use Rattle.std.proofs.lemmas.Int.Digits.{digits_push, digits_value_more}
use Rattle.std.proofs.lemmas.List.{take_more}
use Rattle.std.proofs.lemmas.Str.{digit_value_digit}
use Rattle.etcs_schema.proofs.NumberLemmas.{few_digits}
use Rattle.etcs_schema.proofs.json_value.numbers.plain_number.Goals as goal

-- the number so far has fewer digits
pub overflow_mul-number : goal.overflow_mul-number
overflow_mul-number c =
    let s = c.args.text.now in
    let i = c.digits.byte-index in
    let few : digits_value 10 (take i s) < 1000000000000000000 = few_digits (take i s) 18 c.digits.invariant.0 (omega (arith, length-take i s)) in
    omega (arith, few, c.digits.invariant.1)

pub overflow_add-number : goal.overflow_add-number
overflow_add-number c =
    let s = c.args.text.now in
    let i = c.digits.byte-index in
    let few : digits_value 10 (take i s) < 1000000000000000000 = few_digits (take i s) 18 c.digits.invariant.0 (omega (arith, length-take i s)) in
    omega (arith, few, c.digits.invariant.1)

-- one digit more
pub digits-preserved : goal.digits-preserved
digits-preserved c =
    let s = c.args.text.now in
    let i = c.digits.byte-index in
    let x = get_or s i 0 in
    let within : i < length s = omega arith in
    let is : digit_value x + 48 ≡ x = digit_value_digit x (omega arith, omega arith) in
    let more : take (i + 1) s ≡ take i s ++ x ∷ [] = take_more s i 0 within in
    (rw more (digits_push 10 (take i s) x c.digits.invariant.0 (omega arith)), omega (arith, digits_value_more 10 s i within))
